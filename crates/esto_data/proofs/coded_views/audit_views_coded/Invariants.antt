use Rattle.esto_query.specs.Making.{query_of}
use Rattle.esto_semantics.specs.Queries.{IsAnswer}
use Rattle.esto_views.specs.declared.fragments.FragmentDef.{FragmentDef}
use Rattle.esto_data.specs.CodedParts.{Stays}
use Rattle.esto_data.specs.Coding.{IsCodedOf}
use Rattle.esto_fill.specs.Databases.{database_of}
use Rattle.esto_fill.specs.Texts.{HaveTextsOnly}
use Rattle.esto_fill.specs.declared.loaded.Loaded.{Loaded}
use Rattle.esto_term.proofs.ListLemmas.{HoldsBelow}
use Rattle.esto_data.proofs.coded_views.audit_views_coded.Given as goal

-- the rows of the views so far are of texts alone
abbrev pub invariant-fragments : goal.invariant-fragments
invariant-fragments l =
    Stays l.initial.coded l.coded
    × ((loaded : Loaded) → IsCodedOf loaded l.initial.coded
    → HoldsBelow (λ _ (fragment : FragmentDef). HaveTextsOnly (IsAnswer (query_of fragment.view) (database_of loaded.facts))) l.fragment-items l.fragment-index)
