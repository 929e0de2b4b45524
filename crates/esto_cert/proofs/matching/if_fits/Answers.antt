use Rattle.esto_cert.proofs.MatchLemmas.{if_so}
use Rattle.esto_cert.proofs.matching.if_fits.Goals as goal

pub returns : goal.returns
returns c = if_so _ c.args.it c.then_some.result _ c.then_some.ensures c.in_ok-fits.ensures
