use Rattle.std.proofs.Common.{refl}
use Rattle.esto_run.specs.Opened.{rows_held}
use Rattle.esto_course.proofs.Steps.{at_exit}
use Rattle.esto_course.specs.Course.Stops.{is_free}
use Rattle.esto_status.proofs.AskedSteps.{handed_asks}
use Rattle.esto_status.specs.declared.status.Status.TheVariants.{OutOfMemory}
use Rattle.esto_top.proofs.RunAskedLemmas.{item_asks, item_exit_asks, item_text_wants, item_wants}
use Rattle.esto_top.proofs.RunLemmas.{item_goes, item_stops, text_over_files, used_are_there}
use Rattle.esto_top.proofs.run.run_item.Goals as goal

pub open_fragments-requires-clause-there : goal.open_fragments-requires-clause-there
open_fragments-requires-clause-there g c =
    let over = c.planned_plans_have_their_form.ensures.over c.args.catalogue.now c.args.query.now c.args.plan.now c.requires.planned in
    used_are_there c.args.plan.now c.args.catalogue.now.fragments c.args.item.now.set c.in_ok-numbers.numbers over c.in_ok-numbers.ensures.used

pub returns-in_err-opened-clause-answer : goal.returns-in_err-opened-clause-answer
returns-in_err-opened-clause-answer g c =
    at_exit _ _ c.from_residual-in_err-opened.result c.from_residual-in_err-opened.ensures.1
    (item_stops (g.S.Shelf.files c.args.shelf.now) c.args.catalogue.now c.args.query.now c.args.plan.now c.args.item.now c.in_ok-numbers.numbers
    c.in_ok-numbers.ensures.used c.in_err-opened.ensures.answer.0)

pub run_text-requires-clause-same_length : goal.run_text-requires-clause-same_length
run_text-requires-clause-same_length g c =
    (c.planned_plans_have_their_form.ensures.form c.args.catalogue.now c.args.query.now c.args.plan.now c.requires.planned).same_length

pub run_text-requires-clause-over : goal.run_text-requires-clause-over
run_text-requires-clause-over g c =
    c.planned_plans_have_their_form.ensures.over c.args.catalogue.now c.args.query.now c.args.plan.now c.requires.planned

pub returns-clause-answer : goal.returns-clause-answer
returns-clause-answer g c =
    let opened = c.in_ok-opened.ensures.answer in
    item_goes (g.S.Shelf.files c.args.shelf.now) c.args.catalogue.now c.args.query.now c.args.plan.now c.args.item.now c.in_ok-numbers.numbers
    c.in_ok-numbers.ensures.used opened.0 c.in_ok-text.text opened.1
    (text_over_files c.answers_are_over_files.ensures c.chosen_atoms_are_named.ensures c.args.catalogue.now c.args.query.now c.args.plan.now
    c.args.item.now.set c.in_ok-numbers.numbers opened.0 (rows_held c.in_ok-opened.opened) c.in_ok-text.text c.in_ok-numbers.ensures.used opened.2
    (c.in_ok-text.ensures c.args.item.now.set c.requires.item.order.is_order))

pub returns-in_err-numbers-clause-asked : goal.returns-in_err-numbers-clause-asked
returns-in_err-numbers-clause-asked g c =
    handed_asks _ _ _ c.from_residual.ensures.1
    (item_wants (g.S.Shelf.files c.args.shelf.now) c.args.catalogue.now c.args.query.now c.args.plan.now c.args.item.now (g.S.Shelf.asked c.args.shelf.now))

pub returns-in_err-opened-clause-asked : goal.returns-in_err-opened-clause-asked
returns-in_err-opened-clause-asked g c =
    handed_asks _ _ _ c.from_residual-in_err-opened.ensures.1
    (item_exit_asks (g.S.Shelf.files c.args.shelf.now) c.args.catalogue.now c.args.query.now c.args.plan.now c.args.item.now c.in_ok-numbers.numbers
    c.in_ok-numbers.ensures.used _ c.in_err-opened.ensures.answer.1)

pub returns-in_err-text-clause-asked : goal.returns-in_err-text-clause-asked
returns-in_err-text-clause-asked g c =
    let opened = c.in_ok-opened.ensures.answer in
    handed_asks _ _ _ c.from_residual-in_err-text.ensures.1
    (item_text_wants (g.S.Shelf.files c.args.shelf.now) c.args.catalogue.now c.args.query.now c.args.plan.now c.args.item.now c.in_ok-numbers.numbers
    c.in_ok-numbers.ensures.used opened.0 opened.4)

pub returns-clause-asked : goal.returns-clause-asked
returns-clause-asked g c =
    let opened = c.in_ok-opened.ensures.answer in
    item_asks (g.S.Shelf.files c.args.shelf.now) c.args.catalogue.now c.args.query.now c.args.plan.now c.args.item.now c.in_ok-numbers.numbers
    c.in_ok-numbers.ensures.used opened.0 opened.4 c.in_ok-text.text
    (text_over_files c.answers_are_over_files.ensures c.chosen_atoms_are_named.ensures c.args.catalogue.now c.args.query.now c.args.plan.now
    c.args.item.now.set c.in_ok-numbers.numbers opened.0 (rows_held c.in_ok-opened.opened) c.in_ok-text.text c.in_ok-numbers.ensures.used opened.2
    (c.in_ok-text.ensures c.args.item.now.set c.requires.item.order.is_order))

pub returns-in_err-numbers-clause-answer : goal.returns-in_err-numbers-clause-answer
returns-in_err-numbers-clause-answer g c = at_exit _ OutOfMemory c.from_residual.result c.from_residual.ensures.1 (is_free refl)

pub returns-in_err-text-clause-answer : goal.returns-in_err-text-clause-answer
returns-in_err-text-clause-answer g c = at_exit _ OutOfMemory c.from_residual-in_err-text.result c.from_residual-in_err-text.ensures.1 (is_free refl)

pub run_text-requires-clause-order : goal.run_text-requires-clause-order
run_text-requires-clause-order g c = (c.args.item.now.set, c.requires.item.order.is_order, c.requires.item.set.0.safe)

pub run_text-requires-clause-rows : goal.run_text-requires-clause-rows
run_text-requires-clause-rows g c = c.in_ok-opened.ensures.answer.3
