use Rattle.std.proofs.Common.{map, refl}
use Rattle.esto_course.specs.Course.Stops.{is_free}
use Rattle.esto_term.proofs.ListLemmas.{Contains-at}
use Rattle.esto_course.proofs.Steps.{at_exit}
use Rattle.esto_status.proofs.AskedSteps.{handed_asks}
use Rattle.esto_run.specs.Opened.{rows_held}
use Rattle.esto_run.specs.Picks.{candidate_of}
use Rattle.esto_rewriting.proofs.RunAskedLemmas.{chosen_asks, chosen_exit_asks, chosen_text_wants, chosen_wants}
use Rattle.esto_rewriting.proofs.RunLemmas.{chosen_goes, chosen_stops, first_of, text_over_files, used_are_there}
use Rattle.esto_rewriting.proofs.run.run_picks.Goals as goal

pub returns-in_err-numbers-clause-asked : goal.returns-in_err-numbers-clause-asked
returns-in_err-numbers-clause-asked g c =
    handed_asks _ _ _ c.from_residual.ensures.1
    (chosen_wants (g.S.Shelf.files c.args.shelf.now) c.args.catalogue.now c.args.queries.now (map candidate_of c.args.picks.now)
    (g.S.Shelf.asked c.args.shelf.now))

pub open_fragments-requires-clause-there : goal.open_fragments-requires-clause-there
open_fragments-requires-clause-there g c =
    used_are_there c.chosen_atoms_are_named.ensures c.args.catalogue.now.fragments c.args.picks.now c.in_ok-numbers.numbers c.requires.runnable
    c.in_ok-numbers.ensures.used

pub returns-in_err-opened-clause-answer : goal.returns-in_err-opened-clause-answer
returns-in_err-opened-clause-answer g c =
    at_exit _ _ c.from_residual-in_err-opened.result c.from_residual-in_err-opened.ensures.1
    (chosen_stops (g.S.Shelf.files c.args.shelf.now) c.args.catalogue.now c.args.queries.now (map candidate_of c.args.picks.now) c.in_ok-numbers.numbers
    c.in_ok-numbers.ensures.used c.in_err-opened.ensures.answer.0)

pub returns-in_err-opened-clause-asked : goal.returns-in_err-opened-clause-asked
returns-in_err-opened-clause-asked g c =
    handed_asks _ _ _ c.from_residual-in_err-opened.ensures.1
    (chosen_exit_asks (g.S.Shelf.files c.args.shelf.now) c.args.catalogue.now c.args.queries.now (map candidate_of c.args.picks.now) c.in_ok-numbers.numbers
    c.in_ok-numbers.ensures.used _ c.in_err-opened.ensures.answer.1)

pub returns-in_err-text-clause-asked : goal.returns-in_err-text-clause-asked
returns-in_err-text-clause-asked g c =
    let opened = c.in_ok-opened.ensures.answer in
    handed_asks _ _ _ c.from_residual-in_err-text.ensures.1
    (chosen_text_wants (g.S.Shelf.files c.args.shelf.now) c.args.catalogue.now c.args.queries.now (map candidate_of c.args.picks.now) c.in_ok-numbers.numbers
    c.in_ok-numbers.ensures.used opened.0 opened.4)

pub returns-clause-answer : goal.returns-clause-answer
returns-clause-answer g c =
    let opened = c.in_ok-opened.ensures.answer in
    let others = map candidate_of c.args.picks.now in
    chosen_goes (g.S.Shelf.files c.args.shelf.now) c.args.catalogue.now c.args.queries.now others c.in_ok-numbers.numbers
    c.in_ok-numbers.ensures.used opened.0 c.in_ok-text.text opened.1
    (text_over_files c.answers_are_over_files.ensures c.args.catalogue.now c.args.queries.now c.index-queries-0.result
    (first_of c.args.queries.now c.index-queries-0.result c.requires.some c.index-queries-0.is) others c.in_ok-numbers.numbers opened.0
    (rows_held c.in_ok-opened.opened) c.in_ok-text.text c.in_ok-numbers.ensures.used opened.2 c.in_ok-text.ensures)

pub returns-clause-asked : goal.returns-clause-asked
returns-clause-asked g c =
    let opened = c.in_ok-opened.ensures.answer in
    let others = map candidate_of c.args.picks.now in
    chosen_asks (g.S.Shelf.files c.args.shelf.now) c.args.catalogue.now c.args.queries.now others c.in_ok-numbers.numbers
    c.in_ok-numbers.ensures.used opened.0 opened.4 c.in_ok-text.text
    (text_over_files c.answers_are_over_files.ensures c.args.catalogue.now c.args.queries.now c.index-queries-0.result
    (first_of c.args.queries.now c.index-queries-0.result c.requires.some c.index-queries-0.is) others c.in_ok-numbers.numbers opened.0
    (rows_held c.in_ok-opened.opened) c.in_ok-text.text c.in_ok-numbers.ensures.used opened.2 c.in_ok-text.ensures)

pub returns-in_err-numbers-clause-answer : goal.returns-in_err-numbers-clause-answer
returns-in_err-numbers-clause-answer g c = at_exit _ _ c.from_residual.result c.from_residual.ensures.1 (is_free refl)

pub returns-in_err-text-clause-answer : goal.returns-in_err-text-clause-answer
returns-in_err-text-clause-answer g c = at_exit _ _ c.from_residual-in_err-text.result c.from_residual-in_err-text.ensures.1 (is_free refl)

pub text_of_picks-requires-clause-runnable : goal.text_of_picks-requires-clause-runnable
text_of_picks-requires-clause-runnable g c = c.requires.runnable

pub text_of_picks-requires-clause-same_length : goal.text_of_picks-requires-clause-same_length
text_of_picks-requires-clause-same_length g c = λ pick inside.
    c.requires.same_length pick c.index-queries-0.result inside (Contains-at c.args.queries.now 0 c.index-queries-0.result
    (first_of c.args.queries.now c.index-queries-0.result c.requires.some c.index-queries-0.is))
