use Rattle.std.proofs.Common.{map, sym, ◌∙◌}
use Rattle.std.proofs.lemmas.List.{length-map}
use Rattle.esto_cert.proofs.ReadLemmas.{other_words}
use Rattle.esto_cert.proofs.reading.line_of_words.Goals as goal

pub returns : goal.returns
returns c =
    other_words (map (λ word. word.now) c.args.words.now) (λ is. c.if-words-eq3.false (sym (length-map c.args.words.now (λ word. word.now)) ∙ is))
    (λ is. c.if-words-eq5.false (sym (length-map c.args.words.now (λ word. word.now)) ∙ is))
