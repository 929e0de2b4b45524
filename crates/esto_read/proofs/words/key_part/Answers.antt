use Rattle.std.proofs.Common.{Some, sym, ap, ◌∙◌}
use Rattle.std.proofs.lemmas.Bool.{false≢true}
use Rattle.esto_read.proofs.WordLemmas.{no_key_part}
use Rattle.esto_read.proofs.words.key_part.Goals as goal

pub returns-then-is_named : goal.returns-then-is_named
returns-then-is_named c = ap Some (sym (c.is_named.ensures.0 c.if-is_named.true))

pub returns : goal.returns
returns c = no_key_part c.args.part.now (λ same. false≢true (sym c.if-is_named.false ∙ c.is_named.ensures.1 same))
