use Rattle.std.proofs.Common.{List, ℕ, ◌+◌, ◌++◌, map, ap, ◌∙◌}
use Rattle.std.proofs.lemmas.Result.{on_ok_weaker}
use Rattle.esto_derive.specs.Printing.{list_text}
use Rattle.esto_derive.proofs.printing.put_lines.Goals as goal

pub returns : goal.returns
returns c =
    on_ok_weaker c.put_list.result
    (λ is. is ∙ ap (λ (it : List ℕ). c.args.text.now ++ list_text (map (λ line. line + 1) it)) (c.items.ensures ∙ c.in_ok-named.ensures))
    c.put_list.ensures
