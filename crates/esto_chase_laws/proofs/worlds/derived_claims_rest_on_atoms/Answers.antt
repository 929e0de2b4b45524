use Rattle.esto_chase_laws.proofs.RestLemmas.{claims_rest}
use Rattle.esto_chase_laws.proofs.worlds.derived_claims_rest_on_atoms.Goals as goal

pub returns : goal.returns
returns c = claims_rest
