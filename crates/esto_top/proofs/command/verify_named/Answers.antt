use Rattle.esto_course.proofs.Steps.{at_exit}
use Rattle.esto_status.proofs.AskedSteps.{handed_asks}
use Rattle.esto_status.proofs.Steps.{still_stops}
use Rattle.esto_top.proofs.AtomLemmas.{named_answers, named_asks, unnamed_asks}
use Rattle.esto_top.proofs.command.verify_named.Goals as goal

pub returns-in_err-numbers-clause-answer : goal.returns-in_err-numbers-clause-answer
returns-in_err-numbers-clause-answer g c = at_exit _ _ c.from_residual.result c.from_residual.ensures.1 (still_stops _ _ c.in_err-numbers.ensures)

pub returns-in_err-numbers-clause-asked : goal.returns-in_err-numbers-clause-asked
returns-in_err-numbers-clause-asked g c =
    handed_asks _ _ _ c.from_residual.ensures.1
    (unnamed_asks (g.S.Shelf.files c.args.shelf.now) c.args.catalogue.now c.args.query.now c.args.atoms.now c.args.file.now _ _ c.in_err-numbers.ensures)

pub returns-clause-answer : goal.returns-clause-answer
returns-clause-answer g c =
    named_answers (g.S.Shelf.files c.args.shelf.now) c.args.catalogue.now c.args.query.now c.args.atoms.now c.args.file.now c.in_ok-numbers.numbers
    c.items.result.now c.in_ok-numbers.ensures c.items.ensures _ _ c.over_catalogue.ensures.later c.over_catalogue.result c.over_catalogue.ensures.answer

pub returns-clause-asked : goal.returns-clause-asked
returns-clause-asked g c =
    named_asks (g.S.Shelf.files c.args.shelf.now) c.args.catalogue.now c.args.query.now c.args.atoms.now c.args.file.now c.in_ok-numbers.numbers
    c.items.result.now c.in_ok-numbers.ensures c.items.ensures c.over_catalogue.result c.over_catalogue.ensures.asked
