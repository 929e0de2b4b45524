use Rattle.std.proofs.Common.{◌∙◌}
use Rattle.esto_catalog.proofs.RowLemmas.{copied_setting, judges_stops}
use Rattle.esto_catalog.proofs.whole.read_version.Goals as goal

pub returns-in-None : goal.returns-in-None
returns-in-None c =
    let same = copied_setting c.setting_at.result _ c.setting_at.ensures in
    judges_stops _ _ _ _ (λ other is. ((λ version set. c.in-None.ensures version (same ∙ set)), is)) c.fault.ensures
