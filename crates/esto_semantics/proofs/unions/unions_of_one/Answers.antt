use Rattle.esto_semantics.proofs.UnionLemmas.{one_rewriting, one_listed}
use Rattle.esto_semantics.proofs.unions.unions_of_one.Goals as goal

pub returns-clause-rewritings : goal.returns-clause-rewritings
returns-clause-rewritings c rules views patterns query plan set form universal = one_rewriting rules views patterns query plan form universal set

pub returns-clause-listed : goal.returns-clause-listed
returns-clause-listed c rules views patterns query plan set form universal = one_listed rules views patterns query plan form universal set
