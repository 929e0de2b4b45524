use Rattle.std.proofs.Common.{ap, ◌∙◌}
use Rattle.esto_catalog.specs.Rows.{fault_at}
use Rattle.esto_status.specs.declared.fault.CatalogueKind.TheVariants.{UnknownKey}
use Rattle.esto_catalog.proofs.RowLemmas.{judges_goes, judges_stops}
use Rattle.esto_catalog.proofs.row.knows_keys.Goals as goal

pub returns-in-Some : goal.returns-in-Some
returns-in-Some c = judges_stops _ _ (fault_at UnknownKey c.args.place c.as_str.result.now) _
    (λ other same. (c.in-Some.key.now, c.in-Some.ensures, same ∙ ap (fault_at UnknownKey c.args.place) c.as_str.ensures)) c.fault.ensures

pub returns-in-None : goal.returns-in-None
returns-in-None c = judges_goes _ _ _ c.in-None.ensures
