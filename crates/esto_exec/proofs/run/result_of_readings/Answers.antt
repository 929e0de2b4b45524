use Rattle.std.proofs.Common.{◌↔◌, [], map, get_or, Contains, sym, subst}
use Rattle.std.proofs.lemmas.Result.{IfOk-weaker}
use Rattle.esto_steps.specs.Meaning.{IsResult}
use Rattle.esto_steps.specs.Rows.{IsRowOf}
use Rattle.esto_exec.specs.Instead.{given_shape, given_rows}
use Rattle.esto_exec.specs.Runnable.{AreRunnable}
use Rattle.esto_exec.proofs.run.result_of_readings.Goals as goal

pub joined_result-requires : goal.joined_result-requires
joined_result-requires g c =
    subst (λ given. AreRunnable (map (given_shape g.F.Fragment.shape) given) c.in_ok-gets.gets) (sym c.items.ensures)
    (subst (AreRunnable (map (given_shape g.F.Fragment.shape) c.args.readings.now.given)) (sym c.in_ok-gets.ensures) c.requires)

pub returns-clause-rows : goal.returns-clause-rows
returns-clause-rows g c = IfOk-weaker c.joined_result.result _ _
    (λ it told row.
    subst (λ given. Contains it.rows row ↔ IsResult (IsRowOf (λ number. get_or (map (given_rows g.F.Fragment.rows) given) number []))
    (record { gets = c.args.readings.now.gets; head = c.args.head.now }) row) c.items.ensures
    (subst (λ gets. Contains it.rows row ↔ IsResult (IsRowOf (λ number. get_or (map (given_rows g.F.Fragment.rows) c.items.result.now) number []))
    (record { gets = gets; head = c.args.head.now }) row) c.in_ok-gets.ensures
    (subst (λ head. Contains it.rows row ↔ IsResult (IsRowOf (λ number. get_or (map (given_rows g.F.Fragment.rows) c.items.result.now) number []))
    (record { gets = c.in_ok-gets.gets; head = head }) row) c.in_ok-head.ensures (told row))))
    c.joined_result.ensures.rows
