use Rattle.std.proofs.Common.{[], ◌∷◌, ◌+◌, map, length, get_or, ap, ◌∙◌}
use Rattle.std.proofs.lemmas.List.{length-append, map-append}
use Rattle.std.proofs.lemmas.Result.{on_ok_weaker}
use Rattle.esto_steps.specs.Rows.{IsRowOf}
use Rattle.esto_exec.specs.Instead.{given_shape, given_rows}
use Rattle.esto_exec.proofs.InsteadLemmas.{instead_more}
use Rattle.esto_exec.proofs.reading.add_reading.Goals as goal

pub returns-clause-many : goal.returns-clause-many
returns-clause-many g c = on_ok_weaker c.push_reading.result
    (λ is. ap length is.0 ∙ length-append c.args.readings.now.gets (c.in_ok-reading.reading.get ∷ []) ∙ ap (λ n. n + 1) c.requires.many)
    c.push_reading.ensures

pub returns-clause-instead : goal.returns-clause-instead
returns-clause-instead g c = on_ok_weaker c.push_reading.result
    (λ is. instead_more (IsRowOf (λ number. get_or (map g.F.Fragment.rows c.args.fragments.now) number [])) c.args.steps.now.arities.now
    c.args.steps.now.gets.now c.args.steps.now.equations.now c.args.readings.now.gets c.push_reading.new.readings.gets
    (map (given_shape g.F.Fragment.shape) c.args.readings.now.given) (map (given_shape g.F.Fragment.shape) c.push_reading.new.readings.given)
    (map (given_rows g.F.Fragment.rows) c.args.readings.now.given) (map (given_rows g.F.Fragment.rows) c.push_reading.new.readings.given)
    c.args.number c.in_ok-reading.reading.get (given_shape g.F.Fragment.shape c.in_ok-reading.reading.given)
    (given_rows g.F.Fragment.rows c.in_ok-reading.reading.given) c.requires.many c.requires.instead c.in_ok-reading.ensures.instead
    c.in_ok-reading.ensures.enough is.0
    (ap (map (given_shape g.F.Fragment.shape)) is.1
    ∙ map-append (given_shape g.F.Fragment.shape) c.args.readings.now.given (c.in_ok-reading.reading.given ∷ []))
    (ap (map (given_rows g.F.Fragment.rows)) is.1
    ∙ map-append (given_rows g.F.Fragment.rows) c.args.readings.now.given (c.in_ok-reading.reading.given ∷ [])))
    c.push_reading.ensures
