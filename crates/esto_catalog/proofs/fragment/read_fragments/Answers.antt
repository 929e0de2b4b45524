use Rattle.std.proofs.Common.{arith, ◌≤◌, length}
use Rattle.esto_course.proofs.Steps.{at_exit, each_goes, leads_itself, turn_next, turn_stops}
use Rattle.esto_catalog.specs.Fragments.{adds_fragment, reads_fragments}
use Rattle.esto_catalog.proofs.WalkLemmas.{no_fragments_sound}
use Rattle.esto_catalog.proofs.fragment.read_fragments.Goals as goal

pub entries-init : goal.entries-init
entries-init c = record {
  leads = rw (c.new.ensures, c.new-2.ensures) (leads_itself _);
  sound = rw (c.new.ensures, c.new-2.ensures) (no_fragments_sound _);
}

pub entries-preserved : goal.entries-preserved
entries-preserved c = record {
  leads =
      turn_next (adds_fragment c.args.scope.now.datasets) c.args.entries.now _ c.entries.index c.entries.fragments c.entries.invariant.leads
      c.index-entries-index.result c.entries-test.true c.index-entries-index.is _ (rw c.items.ensures at c.in_ok-add_fragment.ensures.goes);
  sound = c.in_ok-add_fragment.ensures.sound c.entries.invariant.sound;
}

pub returns-in_err-add_fragment-clause-fragments : goal.returns-in_err-add_fragment-clause-fragments
returns-in_err-add_fragment-clause-fragments c =
    at_exit _ _ _ c.from_residual.ensures.1
    (turn_stops (adds_fragment c.args.scope.now.datasets) c.args.entries.now _ c.entries.index c.entries.fragments c.entries.invariant.leads
    c.index-entries-index.result c.entries-test.true c.index-entries-index.is _ (rw c.items.ensures at c.in_err-add_fragment.ensures.error))

pub returns-clause-fragments : goal.returns-clause-fragments
returns-clause-fragments c =
    let le : length c.args.entries.now ≤ c.entries.index = omega arith in
    each_goes (adds_fragment c.args.scope.now.datasets) c.args.entries.now
    (reads_fragments c.args.scope.now.datasets c.args.entries.now) _ c.entries.index c.entries.fragments c.entries.invariant.leads le
