use Rattle.esto_term.proofs.FiniteLemmas.{finite}
use Rattle.esto_term.proofs.term.terms_are_finite.Goals as goal

pub returns : goal.returns
returns c = finite
