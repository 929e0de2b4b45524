use Rattle.std.proofs.Common.{List, ℕ, ◌++◌, ap, ◌∙◌, ◌≡◌, ◌==◌, true, false, sym}
use Rattle.std.proofs.lemmas.Result.{on_ok_weaker}
use Rattle.esto_derive.proofs.TextLemmas.{lines_text}
use Rattle.esto_derive.proofs.printing.put_list.Goals as goal

pub returns : goal.returns
returns c =
    on_ok_weaker c.put_numbers.result (λ is. is ∙ ap (λ (it : List ℕ). c.args.text.now ++ it) (lines_text c.args.lines.now
    (λ none. let wrong : true ≡ false = sym (c.is_empty.ensures ∙ ap (λ (it : ℕ). it == 0) none) ∙ c.if-is_empty.false in cc)))
    c.put_numbers.ensures
