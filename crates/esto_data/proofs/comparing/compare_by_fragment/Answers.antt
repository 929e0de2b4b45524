use Rattle.std.proofs.Common.{Some, map, refl, arith}
use Rattle.esto_constraint.specs.Constraints.{rules_of}
use Rattle.esto_constraint.specs.EncodingRules.{written}
use Rattle.esto_course.specs.Course.Stops.{is_free}
use Rattle.esto_course.proofs.Steps.{at_exit}
use Rattle.esto_fill.proofs.DifferenceLemmas.{are_rules}
use Rattle.esto_query.specs.Making.{query_of}
use Rattle.esto_term.proofs.ZipLemmas.{zip_at}
use Rattle.esto_views.specs.Fragments.{views_of}
use Rattle.esto_data.specs.Fill.{names_of}
use Rattle.esto_data.proofs.CodedLemmas.{left_enough}
use Rattle.esto_data.proofs.CompareLemmas.{contents_many, texts_there}
use Rattle.esto_data.proofs.StepLemmas.{differs_stops}
use Rattle.esto_data.proofs.UnlikeLemmas.{first_judges, first_of_all, never_none, view_there}
use Rattle.esto_data.proofs.WantedLemmas.{texts_back}
use Rattle.esto_data.proofs.comparing.compare_by_fragment.Goals as goal

pub item-requires : goal.item-requires
item-requires c =
    let many = contents_many c.args.catalogue.now c.requires.rows.0 c.args.coded.now.facts.texts c.args.rows.now c.requires.rows.1 in
    omega (arith, c.requires.there, many)

pub fragment_difference-requires-clause-texts : goal.fragment_difference-requires-clause-texts
fragment_difference-requires-clause-texts c =
    let catalogue = c.args.catalogue.now in
    let trial = c.args.trial.now in
    let (facts, left, texts) = c.requires.facts in
    let fragment = c.item-fragment.result.now in (
      left.loaded,
      left.stand,
      texts_back catalogue (rules_of trial.laws) facts left.loaded.facts (left_enough catalogue trial c.requires.trial facts c.args.coded.now left) texts
          (query_of fragment.view) (view_there catalogue.fragments c.args.number fragment c.item-fragment.ensures),
    )

pub fragment_difference-requires-clause-rows : goal.fragment_difference-requires-clause-rows
fragment_difference-requires-clause-rows c =
    let held = c.requires.rows.1 in
    texts_there c.args.coded.now.facts.texts c.args.rows.now c.args.number c.item.result.now c.item.ensures held.rows held.coded

pub returns-in_err-difference : goal.returns-in_err-difference
returns-in_err-difference c facts left texts contents held passed first =
    at_exit _ _ c.from_residual.result c.from_residual.ensures.1 (is_free refl)

pub returns-in-Some : goal.returns-in-Some
returns-in-Some c facts left texts contents held passed first =
    let catalogue = c.args.catalogue.now in
    let trial = c.args.trial.now in
    let number = c.args.number in
    let some = left.loaded.facts in
    let list = zip_at _ c.args.rows.now held.rows held.coded number c.item.result.now c.item.ensures in
    let judged = rw c.in-Some.is at (c.in_ok-difference.ensures left.loaded left.stand list.0 list.2) in
    differs_stops catalogue facts contents c.in-Some.difference
    ((c.audits_are_over_files.ensures (rules_of catalogue.rules) (map written catalogue.rules) (names_of catalogue.fragments) (views_of catalogue.fragments)
    facts catalogue.stores contents held.rows (Some c.in-Some.difference) held.are.are).0
    (first_of_all c.databases_stand_for_facts.ensures.rules catalogue (rules_of trial.laws) facts some
    (left_enough catalogue trial c.requires.trial facts c.args.coded.now left) (are_rules c.rules_are_sound.ensures.rules catalogue.rules) passed held.rows
    c.in-Some.difference
    (first_judges catalogue.fragments some held.rows number first c.item-fragment.result.now list.0 c.item-fragment.ensures list.1 c.in-Some.difference
    judged)))

pub returns-in-None : goal.returns-in-None
returns-in-None c facts left texts contents held passed first =
    let catalogue = c.args.catalogue.now in
    let trial = c.args.trial.now in
    let number = c.args.number in
    let fragment = c.item-fragment.result.now in
    let list = zip_at _ c.args.rows.now held.rows held.coded number c.item.result.now c.item.ensures in
    let judged = rw c.in-None.is at (c.in_ok-difference.ensures left.loaded left.stand list.0 list.2) in
    absurd (never_none catalogue.fragments left.loaded.facts held.rows number first fragment list.0 c.item-fragment.ensures list.1
    (texts_back catalogue (rules_of trial.laws) facts left.loaded.facts (left_enough catalogue trial c.requires.trial facts c.args.coded.now left) texts
    (query_of fragment.view) (view_there catalogue.fragments number fragment c.item-fragment.ensures)) judged)
