use Rattle.esto_course.proofs.Steps.{first_stops, then_stops, then_goes, gives_goes}
use Rattle.esto_catalog.proofs.FragmentLemmas.{rows_fit}
use Rattle.esto_catalog.proofs.RowLemmas.{row_exit}
use Rattle.esto_catalog.proofs.ShapeLemmas.{head_fit, view_reading}
use Rattle.esto_catalog.proofs.WalkLemmas.{stored_sound}
use Rattle.esto_catalog.specs.Fragments.{reads_fragment}
use Rattle.esto_catalog.proofs.fragment.read_fragment.Goals as goal

pub returns-in_err-knows_keys-clause-fragment : goal.returns-in_err-knows_keys-clause-fragment
returns-in_err-knows_keys-clause-fragment c =
    row_exit (reads_fragment c.args.place c.args.scope.now.datasets c.args.earlier.now c.args.entry.now) _ _ c.from_residual.ensures.1
    (first_stops _ _ c.in_err-knows_keys.ensures)

pub returns-in_err-view-clause-fragment : goal.returns-in_err-view-clause-fragment
returns-in_err-view-clause-fragment c =
    row_exit (reads_fragment c.args.place c.args.scope.now.datasets c.args.earlier.now c.args.entry.now) _ _ c.from_residual-in_err-view.ensures.1
    (then_stops _ _ _ c.in_ok-knows_keys.ensures (first_stops _ _ c.in_err-view.ensures.view))

pub returns-in_err-store-clause-fragment : goal.returns-in_err-store-clause-fragment
returns-in_err-store-clause-fragment c =
    row_exit (reads_fragment c.args.place c.args.scope.now.datasets c.args.earlier.now c.args.entry.now) _ _ c.from_residual-in_err-store.ensures.1
    (then_stops _ _ _ c.in_ok-knows_keys.ensures (then_stops _ _ _ c.in_ok-view.ensures.view (first_stops _ _ c.in_err-store.ensures)))

pub returns-clause-fragment : goal.returns-clause-fragment
returns-clause-fragment c =
    then_goes _ _ _ _ c.in_ok-knows_keys.ensures (then_goes _ _ _ _ c.in_ok-view.ensures.view
    (then_goes _ _ _ _ c.in_ok-store.ensures (gives_goes _ _ _ c.stored_fragment.ensures)))

pub returns-clause-sound : goal.returns-clause-sound
returns-clause-sound c =
    let view = c.in_ok-view.view in
    let reading = view_reading c.args.place c.args.scope.now.datasets c.args.earlier.now c.args.entry.now view c.in_ok-view.ensures.view in
    let names = c.views_name_their_columns.ensures _ _ reading.0 view reading.1 in
    let store = c.in_ok-store.store in
    let access = c.in_ok-store.access in
    let weight = c.in_ok-store.weight in
    let fits = rows_fit c.args.place view.query c.args.entry.now store access weight (head_fit view.query names.0 names.1) c.in_ok-store.ensures in
    stored_sound _ view store access weight c.stored_fragment.result c.stored_fragment.ensures c.in_ok-view.ensures.sound fits.0 fits.1 fits.2

pub rows_after_view-requires : goal.rows_after_view-requires
rows_after_view-requires c =
    let view = c.in_ok-view.view in
    let reading = view_reading c.args.place c.args.scope.now.datasets c.args.earlier.now c.args.entry.now view c.in_ok-view.ensures.view in
    let names = c.views_name_their_columns.ensures _ _ reading.0 view reading.1 in
    (head_fit view.query names.0 names.1).distinct
