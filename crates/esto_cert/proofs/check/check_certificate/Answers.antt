use Rattle.esto_cert.specs.Judging.{DecidesFor}
use Rattle.esto_cert.proofs.VerdictLemmas.{accepted_only}
use Rattle.esto_cert.proofs.check.check_certificate.Goals as goal

pub returns : goal.returns
returns c =
    let decides = DecidesFor c.args.plan.now c.args.fragments.now c.args.set.now c.args.rules.now c.args.query.now c.args.bytes.now in
    record {
      exact = c.decide.ensures;
      contained = accepted_only decides _ c.decide.result c.decide.ensures
          (c.accepted_certificates_show.ensures c.args.plan.now c.args.fragments.now c.args.set.now c.args.rules.now c.args.query.now c.args.bytes.now
          c.requires.count);
    }
