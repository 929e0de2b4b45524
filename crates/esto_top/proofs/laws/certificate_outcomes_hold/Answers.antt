use Rattle.esto_top.proofs.CertificateLemmas.{outcomes_are_verified}
use Rattle.esto_top.proofs.ExplainLemmas.{outcomes_are_explained}
use Rattle.esto_top.proofs.laws.certificate_outcomes_hold.Goals as goal

pub returns-clause-explain : goal.returns-clause-explain
returns-clause-explain c = outcomes_are_explained c.listings_hold.ensures c.explain_says_certificates.ensures

pub returns-clause-verify : goal.returns-clause-verify
returns-clause-verify c =
    outcomes_are_verified c.listings_hold.ensures c.verify_checks_certificates.ensures c.verify_says_verdicts.ensures
