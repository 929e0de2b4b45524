-- The canonical database of a query: its body with each constant as its text, and every other term as the unnamed value of its
-- first place among the query's terms.
use Rattle.std.proofs.Common.{◌≡◌, ◌⊎◌, inl, inr, ℕ, List, ◌++◌, map, Contains, refl, sym, ap, ◌∙◌}
use Rattle.std.proofs.lemmas.List.Elements.{Contains-append_left, Contains-append_right}
use Rattle.esto_term.specs.declared.term.Term.{Term}
use Rattle.esto_term.specs.declared.term.Term.TheVariants.{Const}
use Rattle.esto_term.specs.Kinds.{IsConstant}
use Rattle.esto_semantics.specs.Expansions.{IsOfQuery}
use Rattle.esto_semantics.specs.Facts.{Database, Mentions, terms_of}
use Rattle.esto_semantics.specs.Instances.{MapsTo, IsFinished}
use Rattle.esto_semantics.specs.Queries.{ConjunctiveQuery, IsAnswer, IsAnswerInto}
use Rattle.esto_semantics.specs.Rules.{Rule, tuple, equality, denial, AreRules, Meets}
use Rattle.esto_semantics.specs.Standing.{AreValuesOf}
use Rattle.esto_semantics.specs.declared.fact.Fact.{Fact}
use Rattle.esto_semantics.specs.declared.fact.Value.{Value}
use Rattle.esto_semantics.specs.declared.fact.Value.TheVariants.{Text, Node}
use Rattle.esto_term.specs.Order.{same_term}
use Rattle.esto_semantics.proofs.TermLemmas.{same_term-Decides, constant_text, constant_text-told, constant_text-Const}
use Rattle.esto_semantics.proofs.RenamingLemmas.{Naming, RuleIsKept, value_of, thing_of, renamed, value_of-kept, value_of-Text, thing_of-value_of}
use Rattle.esto_semantics.proofs.RenamingLemmas.{map-thing_of-value_of, answer_there, answer_back, fact_there, fact_back, meets_there}
use Rattle.esto_term.proofs.ListLemmas.{Contains-flat}

abbrev pub terms_naming : Naming Term
terms_naming = record {
  constant = Const;
  text_of = constant_text;
  same = same_term;
  told = constant_text-told;
  decides = same_term-Decides;
}

module _ (query : ConjunctiveQuery) where
  abbrev pub query_terms : List Term
  query_terms = terms_of query.body ++ query.head

  abbrev pub canonical_value : Term → Value
  canonical_value = value_of terms_naming query_terms

  abbrev pub canonical_term : Value → Term
  canonical_term = thing_of terms_naming query_terms

  abbrev pub canonical_database : Database
  canonical_database = renamed terms_naming query_terms query.body

pub Mentions-terms_of : (facts : List (Fact Term)) (term : Term) → Mentions facts term → Contains (terms_of facts) term
Mentions-terms_of facts term (fact, inside, in_fact) = Contains-flat (λ (fact : Fact Term). fact.terms) facts fact term inside in_fact

every_rule_is_kept : (rule : Rule) → RuleIsKept terms_naming rule
every_rule_is_kept (tuple body head) = λ text inside. constant_text-Const text
every_rule_is_kept (equality body left right) = ((λ text is. constant_text-Const text), (λ text is. constant_text-Const text))
every_rule_is_kept (denial body) = tt

module _ (query : ConjunctiveQuery) where
  body_terms : (term : Term) → Mentions query.body term → Contains (query_terms query) term
  body_terms term inside = Contains-append_left (terms_of query.body) query.head term (Mentions-terms_of query.body term inside)

  -- the canonical database meets the rules that the query's body meets
  pub canonical_database-Meets : (rules : List Rule) → AreRules rules → IsFinished rules query → Meets rules (canonical_database query)
  canonical_database-Meets rules are_rules finished rule inside =
      meets_there terms_naming (query_terms query) query.body body_terms rule (are_rules rule inside) (every_rule_is_kept rule) (finished rule inside)

  -- what maps to the query has the query's head as an answer over it
  pub answer-from_map : (other : ConjunctiveQuery) → MapsTo other query → IsAnswer other (canonical_database query) (map (canonical_value query) query.head)
  answer-from_map other (m, keeps, sends, heads) =
      answer_there terms_naming (query_terms query) other (Contains query.body) (Contains (canonical_database query)) query.head
      (λ text inside. constant_text-Const text) (λ term inside text is. constant_text-Const text)
      (fact_there terms_naming (query_terms query) query.body body_terms) (m, keeps, sends, sym heads)

  -- and what has it as an answer maps to the query
  pub map-from_answer : (other : ConjunctiveQuery) → IsAnswer other (canonical_database query) (map (canonical_value query) query.head) → MapsTo other query
  map-from_answer other answer =
      let back : IsAnswerInto Const other (Contains query.body) (map (canonical_term query) (map (canonical_value query) query.head)) =
      answer_back terms_naming (query_terms query) other (Contains query.body) (Contains (canonical_database query)) (map (canonical_value query) query.head)
      (fact_back terms_naming (query_terms query) query.body body_terms) answer in (
        back.0,
        back.1,
        back.2,
        sym back.3 ∙ map-thing_of-value_of terms_naming (query_terms query) query.head
            (λ term inside. Contains-append_right (terms_of query.body) query.head term inside),
      )

-- ---- the values of the query's terms

module _ (query : ConjunctiveQuery) where
  in_terms : (term : Term) → IsOfQuery query term → Contains (query_terms query) term
  in_terms term (inl mentioned) = body_terms query term mentioned
  in_terms term (inr in_head) = Contains-append_right (terms_of query.body) query.head term in_head

  back_there : (term : Term) → IsOfQuery query term → canonical_term query (canonical_value query term) ≡ term
  back_there term of_query = thing_of-value_of terms_naming (query_terms query) term (in_terms term of_query)

  unnamed_or_constant : (term : Term) → IsConstant term ⊎ ((node : ℕ) × (canonical_value query term ≡ Node node))
  unnamed_or_constant term = by (canonical_value query term) refl
    where
      by : (value : Value) → canonical_value query term ≡ value → IsConstant term ⊎ ((node : ℕ) × (canonical_value query term ≡ Node node))
      by (Text text) is = inl (text, sym (constant_text-told term text (value_of-Text terms_naming (query_terms query) term text is)))
      by (Node node) is = inr (node, is)

  pub canonical-AreValuesOf : AreValuesOf (IsOfQuery query) (canonical_value query)
  canonical-AreValuesOf = record {
    keeps = λ text. value_of-kept terms_naming (query_terms query) text (constant_text-Const text);
    unnamed = λ term of_query. unnamed_or_constant term;
    apart = λ term other of_query other_of_query same. sym (back_there term of_query) ∙ ap (canonical_term query) same ∙ back_there other other_of_query;
  }
