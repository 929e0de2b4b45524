use Rattle.std.proofs.Common.{[], subst, sym}
use Rattle.std.proofs.lemmas.Result.{on_ok_weaker}
use Rattle.esto_derive.specs.Writing.{AddsNew, lines_at}
use Rattle.esto_derive.proofs.printing.put_links.Goals as goal

pub returns : goal.returns
returns c =
    on_ok_weaker c.put_list.result
    (λ is. (c.items.result.now, subst (AddsNew [] (lines_at c.args.lines.now c.args.places.now)) (sym c.items.ensures) c.in_ok-linked.ensures, is))
    c.put_list.ensures
