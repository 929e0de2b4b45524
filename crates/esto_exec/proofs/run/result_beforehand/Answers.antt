use Rattle.std.proofs.Common.{[], map, get_or, subst}
use Rattle.std.proofs.lemmas.Result.{IfOk-weaker}
use Rattle.esto_steps.specs.Rows.{IsRowOf}
use Rattle.esto_exec.specs.Given.{AreGiven}
use Rattle.esto_exec.specs.Instead.{given_shape, given_rows}
use Rattle.esto_exec.proofs.GivenLemmas.{given_results}
use Rattle.esto_exec.proofs.InsteadLemmas.{instead_runnable, instead_given, same_rows}
use Rattle.esto_exec.proofs.run.result_beforehand.Goals as goal

pub result_of_readings-requires : goal.result_of_readings-requires
result_of_readings-requires g c =
    instead_runnable (IsRowOf (λ number. get_or (map g.F.Fragment.rows c.args.fragments.now) number [])) c.args.steps.now.arities.now
    c.args.steps.now.gets.now c.args.steps.now.equations.now c.in_ok-readings.readings.gets
    (map (given_shape g.F.Fragment.shape) c.in_ok-readings.readings.given) (map (given_rows g.F.Fragment.rows) c.in_ok-readings.readings.given)
    c.in_ok-readings.ensures.instead

pub returns-clause-rows : goal.returns-clause-rows
returns-clause-rows g c = IfOk-weaker c.result_of_readings.result _ _
    (λ it told row. same_rows (told row)
    (given_results (IsRowOf (λ number. get_or (map g.F.Fragment.rows c.args.fragments.now) number []))
    (IsRowOf (λ number. get_or (map (given_rows g.F.Fragment.rows) c.in_ok-readings.readings.given) number [])) c.args.steps.now.arities.now
    c.args.steps.now.gets.now c.in_ok-readings.readings.gets c.args.steps.now.head.now c.requires.arities
    (subst (AreGiven (IsRowOf (λ number. get_or (map g.F.Fragment.rows c.args.fragments.now) number []))
    (IsRowOf (λ number. get_or (map (given_rows g.F.Fragment.rows) c.in_ok-readings.readings.given) number [])) c.args.steps.now.arities.now
    c.args.steps.now.gets.now c.in_ok-readings.readings.gets) c.requires.equations
    (instead_given (IsRowOf (λ number. get_or (map g.F.Fragment.rows c.args.fragments.now) number [])) c.args.steps.now.arities.now
    c.args.steps.now.gets.now c.args.steps.now.equations.now c.in_ok-readings.readings.gets
    (map (given_shape g.F.Fragment.shape) c.in_ok-readings.readings.given) (map (given_rows g.F.Fragment.rows) c.in_ok-readings.readings.given)
    c.in_ok-readings.ensures.instead c.in_ok-readings.ensures.many)) row))
    c.result_of_readings.ensures.rows
