-- The rows of a universal instance are a universal plan.
use Rattle.std.proofs.Common.{◌≡◌, ◌↔◌, inl, inr, List, map, Contains, sym, ap, ◌∙◌, subst}
use Rattle.std.proofs.lemmas.List.Elements.{Contains-append_left, Contains-append_right}
use Rattle.esto_term.specs.declared.term.Term.{Term}
use Rattle.esto_term.specs.declared.term.Term.TheVariants.{Const}
use Rattle.esto_semantics.specs.Containment.{IsContained}
use Rattle.esto_semantics.specs.Facts.{image, terms_of}
use Rattle.esto_semantics.specs.Instances.{MapsTo, IsUniversalFor, IsFollowed, IsFinished}
use Rattle.esto_semantics.specs.PlanOf.{IsTermRow, IsPlanOf}
use Rattle.esto_semantics.specs.Queries.{ConjunctiveQuery, IsAnswer, IsAnswerInto}
use Rattle.esto_semantics.specs.Rules.{Rule, AreRules}
use Rattle.esto_semantics.specs.Views.{IsViewRow, IsFragmentAnswer}
use Rattle.esto_semantics.specs.declared.fact.Fact.{Fact}
use Rattle.esto_semantics.specs.declared.fact.Value.{Value}
use Rattle.esto_semantics.specs.declared.fact.Value.TheVariants.{Text}
use Rattle.esto_semantics.proofs.AnswerLemmas.{IsAnswerInto-then, IsViewRow-sent}
use Rattle.esto_semantics.proofs.CanonicalLemmas.{terms_naming, query_terms, canonical_value, canonical_term, canonical_database, Mentions-terms_of}
use Rattle.esto_semantics.proofs.CanonicalLemmas.{canonical_database-Meets, answer-from_map}
use Rattle.esto_semantics.proofs.FactLemmas.{image_agree, image_then, image_itself}
use Rattle.esto_semantics.proofs.RenamingLemmas.{answer_back, fact_back, map-thing_of-value_of}
use Rattle.esto_term.proofs.ListLemmas.{map_agree, map_itself, map_then}

-- ---- over the canonical database

module _ (views : List ConjunctiveQuery) (end : ConjunctiveQuery) where
  -- a row of a view over it is a row over the facts, read over terms
  IsTermRow-from_IsViewRow : (fact : Fact Value) → IsViewRow views (canonical_database end) fact → IsTermRow views end.body (image (canonical_term end) fact)
  IsTermRow-from_IsViewRow fact (view, found, answer) = (
    view,
    found,
    answer_back terms_naming (query_terms end) view (Contains end.body) (Contains (canonical_database end)) fact.terms
        (fact_back terms_naming (query_terms end) end.body
        (λ term inside. Contains-append_left (terms_of end.body) end.head term (Mentions-terms_of end.body term inside))) answer,
  )

  pub rows_answer-from_canonical : (other : ConjunctiveQuery) → IsFragmentAnswer views other (canonical_database end) (map (canonical_value end) end.head)
      → IsAnswerInto Const other (IsTermRow views end.body) end.head
  rows_answer-from_canonical other answer =
      subst (IsAnswerInto Const other (IsTermRow views end.body))
      (map-thing_of-value_of terms_naming (query_terms end) end.head (λ term inside. Contains-append_right (terms_of end.body) end.head term inside))
      (answer_back terms_naming (query_terms end) other (IsTermRow views end.body) (IsViewRow views (canonical_database end))
      (map (canonical_value end) end.head) IsTermRow-from_IsViewRow answer)

  -- the query is contained in another over fragments exactly where the end's head is an answer of the other over the rows
  rows_answer-from_contained : (rules : List Rule) (query other : ConjunctiveQuery) → AreRules rules → MapsTo query end → IsFinished rules end
      → IsContained rules (IsAnswer query) (IsFragmentAnswer views other) → IsAnswerInto Const other (IsTermRow views end.body) end.head
  rows_answer-from_contained rules query other are_rules maps finished contained =
      rows_answer-from_canonical other
      (contained (canonical_database end) (canonical_database-Meets end rules are_rules finished) (map (canonical_value end) end.head)
      (answer-from_map end query maps))

  contained-from_rows_answer : (rules : List Rule) (query other : ConjunctiveQuery) → IsFollowed rules query end
      → IsAnswerInto Const other (IsTermRow views end.body) end.head → IsContained rules (IsAnswer query) (IsFragmentAnswer views other)
  contained-from_rows_answer rules query other followed answer database meets row (m, keeps, sends, is) =
      let after = followed database meets m keeps sends in
      subst (IsFragmentAnswer views other database) (after.3 ∙ sym is)
      (IsAnswerInto-then Const Text other (IsTermRow views end.body) (IsViewRow views database) after.0 end.head after.1
      (IsViewRow-sent views end.body database after.0 after.1 after.2) answer)

-- ---- the renaming

module _ (views : List ConjunctiveQuery) (end plan : ConjunctiveQuery) (is_plan : IsPlanOf views end plan) where
  abbrev there_and_back : Term → Term
  there_and_back term = is_plan.back (is_plan.renaming term)

  row-from_atom : (atom : Fact Term) → Contains plan.body atom → IsTermRow views end.body (image is_plan.back atom)
  row-from_atom atom inside =
      let found = is_plan.only_rows atom inside in
      let is : image is_plan.back atom ≡ found.0 =
      ap (image is_plan.back) (sym found.2) ∙ image_then is_plan.renaming is_plan.back found.0
      ∙ image_agree there_and_back (λ term. term) found.0 (λ term in_row. is_plan.undone term (inl (found.0, found.1, in_row))) ∙ image_itself found.0 in
      subst (IsTermRow views end.body) (sym is) found.1

  head_back : map is_plan.back plan.head ≡ end.head
  head_back =
      ap (map is_plan.back) is_plan.head ∙ map_then is_plan.renaming is_plan.back end.head
      ∙ map_agree there_and_back (λ term. term) end.head (λ term inside. is_plan.undone term (inr inside)) ∙ map_itself end.head

  pub map-from_rows_answer : (other : ConjunctiveQuery) → IsAnswerInto Const other (IsTermRow views end.body) end.head → MapsTo other plan
  map-from_rows_answer other answer =
      let renamed = IsAnswerInto-then Const Const other (IsTermRow views end.body)
      (Contains plan.body) is_plan.renaming end.head is_plan.keeps is_plan.rows answer in
      (renamed.0, renamed.1, renamed.2, sym renamed.3 ∙ sym is_plan.head)

  rows_answer-from_map : (other : ConjunctiveQuery) → MapsTo other plan → IsAnswerInto Const other (IsTermRow views end.body) end.head
  rows_answer-from_map other (m, keeps, sends, heads) =
      subst (IsAnswerInto Const other (IsTermRow views end.body)) head_back
      (IsAnswerInto-then Const Const other (Contains plan.body) (IsTermRow views end.body) is_plan.back plan.head is_plan.back_keeps row-from_atom
      (m, keeps, sends, sym heads))

  pub plan_is_universal : (rules : List Rule) (query other : ConjunctiveQuery) → AreRules rules → IsUniversalFor rules query end → IsFinished rules end
      → IsContained rules (IsAnswer query) (IsFragmentAnswer views other) ↔ MapsTo other plan
  plan_is_universal rules query other are_rules universal finished = (
    (λ contained. map-from_rows_answer other (rows_answer-from_contained views end rules query other are_rules universal.maps finished contained)),
    (λ maps. contained-from_rows_answer views end rules query other universal.followed (rows_answer-from_map other maps)),
  )
