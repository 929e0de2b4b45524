use Rattle.std.proofs.Common.{subst}
use Rattle.esto_settings.specs.Settings.{IsTomlError}
use Rattle.esto_catalog.proofs.RowLemmas.{judges_goes, judges_stops}
use Rattle.esto_catalog.proofs.whole.document_of.Goals as goal

-- src/whole.rt:28:1
pub returns-in-Ok : goal.returns-in-Ok
returns-in-Ok c = judges_goes _ _ c.in-Ok.document c.in-Ok.ensures.document

-- src/whole.rt:28:1
pub returns-in-Err-Refused : goal.returns-in-Err-Refused
returns-in-Err-Refused c =
    let none = subst (IsTomlError c.args.bytes.now) c.in-Err-Refused.field-0-is c.in-Err-Refused.ensures.error in
    judges_stops _ _ _ _ (λ other is. (none, is)) c.fault.ensures
