use Rattle.esto_query.specs.Making.{query_of}
use Rattle.esto_semantics.specs.Queries.{IsAnswer}
use Rattle.esto_views.specs.declared.fragments.FragmentDef.{FragmentDef}
use Rattle.esto_fill.specs.Databases.{database_of}
use Rattle.esto_fill.specs.Texts.{HaveTextsOnly}
use Rattle.esto_term.proofs.ListLemmas.{HoldsBelow}
use Rattle.esto_fill.proofs.views.judge_each.Given as goal

-- the rows of the views so far are of texts alone
abbrev pub invariant-fragments : goal.invariant-fragments
invariant-fragments l =
    HoldsBelow (λ _ (fragment : FragmentDef). HaveTextsOnly (IsAnswer (query_of fragment.view) (database_of l.facts))) l.fragment-items l.fragment-index
