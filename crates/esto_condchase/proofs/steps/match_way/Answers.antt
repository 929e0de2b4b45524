use Rattle.std.proofs.Common.{refl}
use Rattle.std.proofs.lemmas.List.{get_or_default}
use Rattle.esto_term.proofs.ListLemmas.{Contains-nil, each_more, each_seen}
use Rattle.esto_condchase.specs.Ways.{Comes}
use Rattle.esto_condchase.proofs.StepLemmas.{GoesSince, grown_same, grown_then, at_since, since_kept, goes_all, goes_told, tried_goes}
use Rattle.esto_condchase.proofs.steps.match_way.Goals as goal

pub returns-then-tells_all-clause-goes : goal.returns-then-tells_all-clause-goes
returns-then-tells_all-clause-goes c = goes_told c.args.level.now.known.now c.args.level.now.since c.args.level.now.from.now c.args.level.now.atom.now
    c.args.level.now.sides c.args.level.now.places.now c.args.before.now c.args.kept.now (c.tells_all.ensures c.if-tells_all.true)

pub facts-init : goal.facts-init
facts-init c = record {
  grown = grown_same _ c.args.kept.now c.args.kept.now refl;
  tried = λ place inside. absurd (Contains-nil place inside);
  counted = c.requires.counted;
}

pub facts-preserved : goal.facts-preserved
facts-preserved c =
    let entries = c.args.level.now.known.now in
    let since = c.args.level.now.since in
    let from = c.args.level.now.from.now in
    let atom = c.args.level.now.atom.now in
    let sides = c.args.level.now.sides in
    let places = c.args.level.now.places.now in
    let before = c.args.before.now in
    record {
      grown = grown_then (Comes entries from atom before) c.args.kept.now c.facts.kept c.match_entry.new.kept c.facts.invariant.grown
          c.in_ok-match_entry.ensures.grown;
      tried = each_more (GoesSince entries since from atom sides places before c.match_entry.new.kept) c.tried_of-place-items.result.now c.facts.place-index _
          c.facts-test.true (get_or_default c.tried_of-place-items.result.now c.facts.place-index _ _ c.facts-test.true)
          (at_since entries from atom sides places before since c.floor_for-floor.result _ c.is_new-new.result c.match_entry.new.kept c.floor_for-floor.ensures
          c.is_new-new.ensures c.in_ok-match_entry.ensures.goes)
          (λ place inside. since_kept entries from atom sides places before since place c.facts.kept c.match_entry.new.kept
          c.in_ok-match_entry.ensures.grown.kept (c.facts.invariant.tried place inside));
      counted = c.in_ok-match_entry.ensures.counted;
    }

pub returns-clause-goes : goal.returns-clause-goes
returns-clause-goes c =
    let entries = c.args.level.now.known.now in
    let since = c.args.level.now.since in
    let from = c.args.level.now.from.now in
    let atom = c.args.level.now.atom.now in
    let sides = c.args.level.now.sides in
    let places = c.args.level.now.places.now in
    let before = c.args.before.now in
    goes_all entries from atom sides places before since c.args.facts.now c.facts.kept c.requires.facts
    (tried_goes entries since from atom sides places before c.facts.kept c.is_new-new.result c.args.facts.now c.args.fresh.now c.tried_of-place-items.result.now
    c.is_new-new.ensures c.requires.fresh c.tried_of-place-items.ensures
    (each_seen (GoesSince entries since from atom sides places before c.facts.kept) c.tried_of-place-items.result.now c.facts.place-index c.facts-test.false
    c.facts.invariant.tried))
