use Rattle.esto_prov.proofs.DeriveLemmas.{derivations}
use Rattle.esto_prov.proofs.entries.derivations_derive.Goals as goal

pub returns : goal.returns
returns c = derivations
