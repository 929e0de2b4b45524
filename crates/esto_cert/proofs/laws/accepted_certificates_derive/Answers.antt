use Rattle.esto_cert.specs.Judging.{case_for}
use Rattle.esto_cert.proofs.DeriveLemmas.{held}
use Rattle.esto_cert.proofs.laws.accepted_certificates_derive.Goals as goal

pub returns : goal.returns
returns c plan fragments set rules query bytes (expanded, exact, expands, flat, decides) =
    (expanded, exact, held (case_for plan set rules query expanded) bytes decides)
