use Rattle.esto_course.specs.Course.{and_then}
use Rattle.esto_course.proofs.Steps.{at_exit, first_stops, then_stops}
use Rattle.esto_status.proofs.Steps.{next_answers}
use Rattle.esto_reasoning.specs.Contains.{have_one_length, prints_told, tells_contained}
use Rattle.esto_reasoning.proofs.containing.compared.Goals as goal

pub returns-in_err-one_length : goal.returns-in_err-one_length
returns-in_err-one_length c = at_exit _ _ c.from_residual.result c.from_residual.ensures.1 (first_stops _ _ c.in_err-one_length.ensures)

pub returns-in_err-told : goal.returns-in_err-told
returns-in_err-told c =
    let catalogue = c.args.catalogue.now in
    let left = c.args.left.now in
    let right = c.args.right.now in
    at_exit _ _ c.from_residual-in_err-told.result c.from_residual-in_err-told.ensures.1
    (then_stops (have_one_length left right) (λ _. and_then (tells_contained catalogue left right) (prints_told catalogue left)) c.in_ok-one_length.field-0
    c.in_ok-one_length.ensures (first_stops (tells_contained catalogue left right) (prints_told catalogue left) c.in_err-told.ensures.course))

pub returns : goal.returns
returns c =
    let catalogue = c.args.catalogue.now in
    let left = c.args.left.now in
    let right = c.args.right.now in
    next_answers (have_one_length left right) (λ _. and_then (tells_contained catalogue left right) (prints_told catalogue left)) ⊥
    c.in_ok-one_length.field-0 c.text_of.result c.in_ok-one_length.ensures
    (next_answers (tells_contained catalogue left right) (prints_told catalogue left) ⊥ c.in_ok-told.told c.text_of.result c.in_ok-told.ensures.course
    c.text_of.ensures)
