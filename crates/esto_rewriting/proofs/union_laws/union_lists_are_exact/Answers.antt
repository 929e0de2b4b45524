use Rattle.esto_rewriting.proofs.UnionExactLemmas.{lists_exactly}
use Rattle.esto_rewriting.proofs.union_laws.union_lists_are_exact.Goals as goal

pub returns : goal.returns
returns c = λ catalogue queries.
    lists_exactly c.members_tell_rewritings.ensures.satisfiable c.members_tell_rewritings.ensures.universal
    c.members_tell_rewritings.ensures.cored c.members_tell_rewritings.ensures.complete c.members_tell_rewritings.ensures.empty catalogue queries
