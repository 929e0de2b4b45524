use Rattle.esto_semantics.proofs.UnionLemmas.{rows_receive, receive_alike, receiving_is_universal}
use Rattle.esto_semantics.proofs.unions.plans_receive_unions.Goals as goal

pub returns-clause-rows : goal.returns-clause-rows
returns-clause-rows c = rows_receive

pub returns-clause-alike : goal.returns-clause-alike
returns-clause-alike c = receive_alike

pub returns-clause-universal : goal.returns-clause-universal
returns-clause-universal c = receiving_is_universal
