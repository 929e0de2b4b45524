use Rattle.std.proofs.Common.{[], map, get_or, refl}
use Rattle.std.proofs.lemmas.Result.{IfOk-weaker}
use Rattle.esto_steps.specs.Rows.{IsRowOf}
use Rattle.esto_exec.proofs.UnderWayLemmas.{results_told}
use Rattle.esto_exec.proofs.result.rows_of_all.Goals as goal

pub returns-clause-rows : goal.returns-clause-rows
returns-clause-rows g c =
    IfOk-weaker c.head_rows.result _ _
    (λ it. results_told (IsRowOf (λ number. get_or (map g.F.Fragment.rows c.args.fragments.now) number []))
    (record { gets = c.args.steps.now.gets.now; head = c.args.steps.now.head.now }) c.args.steps.now.arities.now c.args.steps.now.equations.now
    c.take_all.new.so_far.done c.take_all.new.so_far.places c.take_all.new.so_far.rows.rows it.rows _ c.requires.arities c.requires.equations
    c.in_ok-take_all.ensures.all c.in_ok-take_all.ensures.under_way refl)
    c.head_rows.ensures.rows
