use Rattle.esto_query.specs.Making.{query_of}
use Rattle.esto_query.specs.declared.query.Query.{Query}
use Rattle.esto_term.proofs.ListLemmas.{HoldsBelow}
use Rattle.esto_data.specs.Datasets.{Names}
use Rattle.esto_data.proofs.unions.one_names.Given as goal

-- none of the queries so far names the dataset
abbrev pub invariant-queries : goal.invariant-queries
invariant-queries l = HoldsBelow (λ _ (query : Query). Names (query_of query).body l.dataset → ⊥) l.queries l.query-index
