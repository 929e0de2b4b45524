use Rattle.std.proofs.Common.{refl}
use Rattle.esto_course.proofs.Steps.{first_stops, then_stops, then_goes, gives_goes}
use Rattle.esto_catalog.proofs.RowLemmas.{memory_stops, row_exit}
use Rattle.esto_catalog.specs.Datasets.{reads_dataset}
use Rattle.esto_catalog.proofs.dataset.read_dataset.Goals as goal

pub returns-in_err-knows_keys : goal.returns-in_err-knows_keys
returns-in_err-knows_keys c = row_exit (reads_dataset c.args.place c.args.earlier.now c.args.entry.now) _ _ c.from_residual.ensures.1
    (first_stops _ _ c.in_err-knows_keys.ensures)

pub returns-in_err-said : goal.returns-in_err-said
returns-in_err-said c =
    row_exit (reads_dataset c.args.place c.args.earlier.now c.args.entry.now) _ _ c.from_residual-in_err-said.ensures.1
    (then_stops _ _ _ c.in_ok-knows_keys.ensures (first_stops _ _ c.in_err-said.ensures.error))

pub returns-in_err-name : goal.returns-in_err-name
returns-in_err-name c = row_exit (reads_dataset c.args.place c.args.earlier.now c.args.entry.now) _ _ c.from_residual-in_err-name.ensures.1
    (memory_stops _ _ refl)

pub returns-in_err-model : goal.returns-in_err-model
returns-in_err-model c =
    row_exit (reads_dataset c.args.place c.args.earlier.now c.args.entry.now) _ _ c.from_residual-in_err-model.ensures.1
    (then_stops _ _ _ c.in_ok-knows_keys.ensures (then_stops _ _ _ c.in_ok-said.ensures.goes (first_stops _ _ c.in_err-model.ensures)))

pub returns : goal.returns
returns c =
    then_goes _ _ _ _ c.in_ok-knows_keys.ensures (then_goes _ _ _ _ c.in_ok-said.ensures.goes
    (then_goes _ _ _ _ c.in_ok-model.ensures (gives_goes _ _ _ (λ i. record {
      name = c.in_ok-name.ensures i;
      model = c.in_ok-model.model;
      base = c.requires i;
      columns = c.in_ok-model.columns;
      layout = c.in_ok-model.layout;
      file = c.in_ok-model.file;
    }))))
