use Rattle.std.proofs.Common.{sym, subst}
use Rattle.esto_read.specs.Layouts.{AreColumns, IsLayoutFault, IsLayoutReading}
use Rattle.esto_catalog.proofs.RowLemmas.{judges_goes, judges_stops}
use Rattle.esto_catalog.proofs.ShapeLemmas.{names_are}
use Rattle.esto_catalog.specs.Shapes.{head_columns}
use Rattle.esto_catalog.proofs.shape.pattern_of_text.Goals as goal

pub read_layout-requires : goal.read_layout-requires
read_layout-requires c = subst AreColumns (sym c.in_ok-names.ensures) (names_are (head_columns c.args.view.now) c.requires)

pub returns-in-Ok : goal.returns-in-Ok
returns-in-Ok c =
    judges_goes _ _ c.in-Ok.pattern
    (subst (λ names. IsLayoutReading names c.args.text.now c.in-Ok.pattern) c.in_ok-names.ensures (rw c.bytes.ensures.value at c.in-Ok.ensures.reading))

pub returns-in-Err-Fault : goal.returns-in-Err-Fault
returns-in-Err-Fault c =
    judges_stops _ _ _ _ (λ other same. (
      c.in-Err-Fault.found,
      subst (λ names. IsLayoutFault names c.args.text.now c.in-Err-Fault.found) c.in_ok-names.ensures
          (rw (c.in-Err-Fault.field-0-is, c.bytes.ensures.value) at c.in-Err-Fault.ensures.error),
      same,
    )) c.fault.ensures
