use Rattle.esto_fill.proofs.AuditLemmas.{audits_are_over_files}
use Rattle.esto_fill.proofs.laws.audits_are_over_files.Goals as goal

pub returns : goal.returns
returns c = audits_are_over_files
