use Rattle.std.proofs.Common.{subst, sym}
use Rattle.esto_course.proofs.Steps.{first_stops, then_stops, then_goes}
use Rattle.esto_catalog.proofs.RowLemmas.{judges_goes, row_exit}
use Rattle.esto_catalog.proofs.WalkLemmas.{found_ranked}
use Rattle.esto_catalog.specs.Datasets.{reads_datasets}
use Rattle.esto_catalog.specs.Reading.{reads_sections}
use Rattle.esto_catalog.proofs.walk.read_sections.Goals as goal

pub returns-in_err-datasets : goal.returns-in_err-datasets
returns-in_err-datasets c =
    row_exit (reads_sections c.args.sections.now) _ _ c.from_residual.ensures.1
    (first_stops _ _ (rw c.items.ensures at c.in_err-datasets.ensures.datasets))

pub returns-in_err-fragments : goal.returns-in_err-fragments
returns-in_err-fragments c =
    let reads = subst (reads_datasets c.args.sections.now.datasets).goes (sym c.in_ok-scope.ensures.same)
    (rw c.items.ensures at c.in_ok-datasets.ensures.datasets) in
    row_exit (reads_sections c.args.sections.now) _ _ c.from_residual-in_err-fragments.ensures.1
    (then_stops _ _ _ reads (first_stops _ _ c.in_err-fragments.ensures.both))

pub catalogue_of-requires-clause-ranked : goal.catalogue_of-requires-clause-ranked
catalogue_of-requires-clause-ranked c =
    found_ranked c.args.sections.now _ (c.in_ok-fragments.fragments, c.in_ok-fragments.ranked) c.in_ok-fragments.ensures.both

pub returns : goal.returns
returns c =
    let reads = subst (reads_datasets c.args.sections.now.datasets).goes (sym c.in_ok-scope.ensures.same)
    (rw c.items.ensures at c.in_ok-datasets.ensures.datasets) in
    then_goes _ _ _ _ reads (then_goes _ _ _ _ c.in_ok-fragments.ensures.both (judges_goes _ _ _ c.catalogue_of.ensures))
