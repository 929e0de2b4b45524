use Rattle.std.proofs.Common.{codes, length}
use Rattle.std.proofs.lemmas.Result.{on_ok_weaker}
use Rattle.esto_term.proofs.ListLemmas.{two_more}
use Rattle.esto_list.specs.Text.{plan_lines}
use Rattle.esto_views.specs.Printing.{count_line}
use Rattle.esto_list.proofs.text.put_list.Goals as goal

pub returns : goal.returns
returns c =
    let lines = plan_lines c.args.fragments.now c.args.plan.now in
    let count = count_line (codes "rewritings ") (length c.args.items.now) in
    let counted = two_more c.args.text.now c.put_plan.new.text c.put_count.new.text lines count c.in_ok-put_plan.ensures c.in_ok-put_count.ensures in
    let listed = two_more c.args.text.now _ _ _ _ counted c.in_ok-put_items.ensures in
    on_ok_weaker c.put_pick.result (λ is. two_more c.args.text.now _ _ _ _ listed is) c.put_pick.ensures
