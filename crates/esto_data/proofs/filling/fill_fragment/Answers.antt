use Rattle.std.proofs.Common.{Err, Ok, refl}
use Rattle.esto_course.proofs.Steps.{at_exit}
use Rattle.esto_status.specs.declared.reply.Reply.TheVariants.{Done}
use Rattle.esto_status.proofs.AskedSteps.{handed_asks}
use Rattle.esto_data.proofs.StepLemmas.{fill_goes, fill_goes_asks, fill_unfilled, fill_unfilled_asks, fill_unloaded, fill_unloaded_asks, fragment_stored}
use Rattle.esto_data.proofs.WantedLemmas.{fills_all}
use Rattle.esto_data.proofs.filling.fill_fragment.Goals as goal

pub returns-in_err-coded-clause-answer : goal.returns-in_err-coded-clause-answer
returns-in_err-coded-clause-answer g c =
    let stored = fragment_stored c.args.catalogue.now c.args.number c.item-fragment.result.now c.requires c.item-fragment.ensures
    (c.catalogues_are_sound.ensures c.args.catalogue.now).stored in
    at_exit _ _ c.from_residual.result c.from_residual.ensures.1
    (fill_unloaded (g.S.Shelf.files c.args.shelf.now) c.args.catalogue.now c.args.number _ stored.1 _ _ c.in_err-coded.ensures.answer)

pub text_of-requires-clause-coded : goal.text_of-requires-clause-coded
text_of-requires-clause-coded g c = let left = c.in_ok-coded.ensures.answer.2 in (left.loaded, left.stand)

pub returns-in_err-text-clause-answer : goal.returns-in_err-text-clause-answer
returns-in_err-text-clause-answer g c =
    let stored = fragment_stored c.args.catalogue.now c.args.number c.item-fragment.result.now c.requires c.item-fragment.ensures
    (c.catalogues_are_sound.ensures c.args.catalogue.now).stored in
    at_exit _ _ c.from_residual-in_err-text.result c.from_residual-in_err-text.ensures.1
    (fill_unfilled (g.S.Shelf.files c.args.shelf.now) c.args.catalogue.now c.args.number _ stored.1 c.in_ok-coded.ensures.answer.0
    c.in_ok-coded.ensures.answer.1
    _ _ (fills_all c.answers_rest_on_wanted_facts.ensures _ c.in_ok-coded.ensures.answer.0 c.in_ok-coded.ensures.answer.2.loaded.facts
    c.in_ok-coded.ensures.answer.2.leaves
    (Err _) (c.in_err-text.ensures c.in_ok-coded.ensures.answer.2.loaded c.in_ok-coded.ensures.answer.2.stand _ stored.1)))

pub returns-clause-answer : goal.returns-clause-answer
returns-clause-answer g c =
    let stored = fragment_stored c.args.catalogue.now c.args.number c.item-fragment.result.now c.requires c.item-fragment.ensures
    (c.catalogues_are_sound.ensures c.args.catalogue.now).stored in
    fill_goes (g.S.Shelf.files c.args.shelf.now) c.args.catalogue.now c.args.number _ stored.1 c.in_ok-coded.ensures.answer.0
    c.in_ok-coded.ensures.answer.1 c.in_ok-text.text
    (fills_all c.answers_rest_on_wanted_facts.ensures _ c.in_ok-coded.ensures.answer.0 c.in_ok-coded.ensures.answer.2.loaded.facts
    c.in_ok-coded.ensures.answer.2.leaves
    (Ok c.in_ok-text.text) (c.in_ok-text.ensures c.in_ok-coded.ensures.answer.2.loaded c.in_ok-coded.ensures.answer.2.stand _ stored.1))
    (Done c.in_ok-text.text) refl

pub returns-in_err-coded-clause-asked : goal.returns-in_err-coded-clause-asked
returns-in_err-coded-clause-asked g c =
    let stored = fragment_stored c.args.catalogue.now c.args.number c.item-fragment.result.now c.requires c.item-fragment.ensures
    (c.catalogues_are_sound.ensures c.args.catalogue.now).stored in
    handed_asks _ _ c.from_residual.result c.from_residual.ensures.1
    (fill_unloaded_asks (g.S.Shelf.files c.args.shelf.now) c.args.catalogue.now c.args.number _ stored.1 _ c.in_err-coded.ensures.asked)

pub returns-in_err-text-clause-asked : goal.returns-in_err-text-clause-asked
returns-in_err-text-clause-asked g c =
    let stored = fragment_stored c.args.catalogue.now c.args.number c.item-fragment.result.now c.requires c.item-fragment.ensures
    (c.catalogues_are_sound.ensures c.args.catalogue.now).stored in
    handed_asks _ _ c.from_residual-in_err-text.result c.from_residual-in_err-text.ensures.1
    (fill_unfilled_asks (g.S.Shelf.files c.args.shelf.now) c.args.catalogue.now c.args.number _ stored.1 c.in_ok-coded.ensures.asked.0
    c.in_ok-coded.ensures.asked.1 _
    (fills_all c.answers_rest_on_wanted_facts.ensures _ c.in_ok-coded.ensures.asked.0 c.in_ok-coded.ensures.asked.2.loaded.facts
    c.in_ok-coded.ensures.asked.2.leaves (Err _) (c.in_err-text.ensures c.in_ok-coded.ensures.asked.2.loaded c.in_ok-coded.ensures.asked.2.stand _ stored.1)))

pub returns-clause-asked : goal.returns-clause-asked
returns-clause-asked g c =
    let stored = fragment_stored c.args.catalogue.now c.args.number c.item-fragment.result.now c.requires c.item-fragment.ensures
    (c.catalogues_are_sound.ensures c.args.catalogue.now).stored in
    fill_goes_asks (g.S.Shelf.files c.args.shelf.now) c.args.catalogue.now c.args.number _ stored.1 c.in_ok-coded.ensures.asked.0
    c.in_ok-coded.ensures.asked.1 c.in_ok-text.text
    (fills_all c.answers_rest_on_wanted_facts.ensures _ c.in_ok-coded.ensures.asked.0 c.in_ok-coded.ensures.asked.2.loaded.facts
    c.in_ok-coded.ensures.asked.2.leaves
    (Ok c.in_ok-text.text) (c.in_ok-text.ensures c.in_ok-coded.ensures.asked.2.loaded c.in_ok-coded.ensures.asked.2.stand _ stored.1))
