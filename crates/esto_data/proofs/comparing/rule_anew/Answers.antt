use Rattle.std.proofs.Common.{None, Some, refl}
use Rattle.esto_constraint.specs.Constraints.{rules_of}
use Rattle.esto_course.specs.Course.Stops.{is_free}
use Rattle.esto_course.proofs.Steps.{at_exit}
use Rattle.esto_docs.specs.Stores.{IsFileRow}
use Rattle.esto_fill.proofs.PartLemmas.{first_audited}
use Rattle.esto_views.specs.Fragments.{views_of}
use Rattle.esto_data.specs.Fill.{names_of}
use Rattle.esto_data.proofs.CompareLemmas.{again_enough, files_numbered}
use Rattle.esto_data.proofs.PartLemmas.{first_again}
use Rattle.esto_data.proofs.StepLemmas.{differs_stops}
use Rattle.esto_data.proofs.comparing.rule_anew.Goals as goal

pub load_again-requires-clause-numbers : goal.load_again-requires-clause-numbers
load_again-requires-clause-numbers c = files_numbered c.args.catalogue.now c.args.files.now c.requires.facts.0 c.requires.facts.1

pub load_again-requires-clause-readable : goal.load_again-requires-clause-readable
load_again-requires-clause-readable c = c.requires.facts.1.readable

pub returns-in_err-loaded : goal.returns-in_err-loaded
returns-in_err-loaded c facts some given audited enough first contents =
    at_exit _ _ c.from_residual.result c.from_residual.ensures.1 (is_free refl)

pub returns-in_err-difference : goal.returns-in_err-difference
returns-in_err-difference c facts some given audited enough first contents =
    at_exit _ _ c.from_residual-in_err-difference.result c.from_residual-in_err-difference.ensures.1 (is_free refl)

pub returns-in-Some : goal.returns-in-Some
returns-in-Some c facts some given audited enough first contents =
    let catalogue = c.args.catalogue.now in
    let loaded = c.in_ok-loaded.loaded in
    differs_stops catalogue facts contents c.in-Some.difference
    (first_audited catalogue (names_of catalogue.fragments) (views_of catalogue.fragments) facts (IsFileRow catalogue.stores contents) c.in-Some.difference
    (first_again catalogue (rules_of c.args.trial.now.laws) facts some loaded.facts enough
    (again_enough c.outcomes_are_one.ensures.facts catalogue c.args.trial.now c.requires.trial c.args.files.now facts audited loaded c.in_ok-loaded.ensures)
    c.args.number given first (Some c.in-Some.difference) (rw c.in-Some.is at c.in_ok-difference.ensures)))

pub returns : goal.returns
returns c facts some given audited enough first contents =
    let catalogue = c.args.catalogue.now in
    let loaded = c.in_ok-loaded.loaded in
    absurd (first_again catalogue (rules_of c.args.trial.now.laws) facts some loaded.facts enough
    (again_enough c.outcomes_are_one.ensures.facts catalogue c.args.trial.now c.requires.trial c.args.files.now facts audited loaded c.in_ok-loaded.ensures)
    c.args.number given first None (rw c.in-None.is at c.in_ok-difference.ensures))
