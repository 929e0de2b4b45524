use Rattle.esto_semantics.proofs.CandidateLemmas.{candidate-contains, candidate-equivalent}
use Rattle.esto_semantics.proofs.plans.candidates_contain_the_query.Goals as goal

pub returns-clause-contains : goal.returns-clause-contains
returns-clause-contains c rules views query plan set form universal has_candidate safe =
    candidate-contains plan set query form has_candidate safe rules views universal

pub returns-clause-equivalent : goal.returns-clause-equivalent
returns-clause-equivalent c rules views query plan set form universal has_candidate safe =
    candidate-equivalent plan set query form has_candidate safe rules views universal
