use Rattle.esto_cert.proofs.OneLemmas.{verdicts_one}
use Rattle.esto_cert.proofs.laws.verdicts_are_one.Goals as goal

pub returns : goal.returns
returns c = verdicts_one (λ query. (c.queries_are_sound.ensures query).query)
