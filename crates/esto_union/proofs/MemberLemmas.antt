-- Members of a union, and picks of them.
use Rattle.std.proofs.Common.{◌≡◌, ◌⊎◌, ◌↔◌, inl, inr, Bool, List, [], ◌∷◌, length, Contains, sym, subst}
use Rattle.esto_term.proofs.ListLemmas.{Contains-cases, Contains-head, Contains-map, Contains-map_from, Contains-nil, Contains-rest}
use Rattle.esto_mapping.specs.declared.catalogue.Catalogue.{Catalogue}
use Rattle.esto_constraint.specs.Constraints.{rules_of}
use Rattle.esto_semantics.specs.UnionLaws.{ChoiceExists, ChoiceIsExecutable, EmptyListExcludes, ReceivingIsUniversal}
use Rattle.esto_semantics.specs.UnionSets.{IsAnswered, IsOption, IsOfOption, HasOption, HasEmptyList}
use Rattle.esto_query.specs.Making.{query_of}
use Rattle.esto_query.specs.declared.query.Query.{Query}
use Rattle.esto_semantics.specs.Access.{Patterns}
use Rattle.esto_semantics.specs.Containment.{IsSatisfiable}
use Rattle.esto_semantics.specs.Queries.{ConjunctiveQuery}
use Rattle.esto_semantics.specs.Rewritings.{IsPlanFor}
use Rattle.esto_semantics.specs.Rules.{Rule}
use Rattle.esto_views.specs.Fragments.{views_of, patterns_of}
use Rattle.esto_views.specs.Plans.{plan_query}
use Rattle.esto_views.specs.Soundness.{IsSoundPlan}
use Rattle.esto_views.specs.declared.plan.Plan.{Plan}
use Rattle.esto_views.proofs.FlatLemmas.{plan_atoms-flat}
use Rattle.esto_union.specs.Laws.{ArePicks, HasSets, IsMember, OneHasNoSet}
use Rattle.esto_union.specs.Unions.{queries_of, AreRewritingOf}

-- ---- lists of things of two kinds

-- each thing of the list is of the first kind, or some thing is of the second
all_or_one : {X : Type 0} (P Q : X → Type 0) (things : List X) → ((thing : X) → Contains things thing → P thing ⊎ Q thing)
    → ((thing : X) → Contains things thing → P thing) ⊎ ((thing : X) × Contains things thing × Q thing)
all_or_one P Q [] each = inl (λ thing inside. absurd (Contains-nil thing inside))
all_or_one P Q (first ∷ rest) each =
    by (each first (Contains-head first rest)) (all_or_one P Q rest (λ thing inside. each thing (Contains-rest first rest thing inside)))
  where
    by : P first ⊎ Q first → ((thing : _) → Contains rest thing → P thing) ⊎ ((thing : _) × Contains rest thing × Q thing)
        → ((thing : _) → Contains (first ∷ rest) thing → P thing) ⊎ ((thing : _) × Contains (first ∷ rest) thing × Q thing)
    by (inr now) later = inr (first, Contains-head first rest, now)
    by (inl now) (inr (thing, inside, is)) = inr (thing, Contains-rest first rest thing inside, is)
    by (inl now) (inl later) = inl (λ thing inside. elim (Contains-cases first rest thing inside) [
      | inl is ↦ subst P is now
      | inr more ↦ later thing more
    ])

module _ (sound : (plan : Plan) → IsSoundPlan plan.atoms plan.head plan.names) (receiving : ReceivingIsUniversal) (catalogue : Catalogue)
    (queries : List Query) where
  abbrev rules : List Rule
  rules = rules_of catalogue.rules

  abbrev views : List ConjunctiveQuery
  views = views_of catalogue.fragments

  abbrev patterns : Patterns
  patterns = patterns_of catalogue.fragments

  pub form : (query : Query) (plan : Plan) → length plan.head ≡ length query.head → IsPlanFor (query_of query) (plan_query plan)
  form query plan same = record { same_length = same; has_head = (sound plan).has_head; flat_body = plan_atoms-flat plan (sound plan) }

  module _ (query : Query) (plan : Plan) (sets : List (List Bool)) (member : IsMember catalogue queries query plan sets) where
    -- a listed set is one that may be chosen
    option : (set : List Bool) → Contains sets set → IsOption rules views patterns (queries_of queries) (query_of query) (plan_query plan) set
    option set inside = record {
      form = form query plan member.same_length;
      universal = receiving rules views (query_of query) (plan_query plan) member.plan_of.receives;
      rewriting = ((member.listed set).0 inside).0;
    }

  -- a query that has its sets may be answered, or it has no set
  answered : (query : Query) → HasSets catalogue queries query
      → IsAnswered rules views patterns (queries_of queries) (query_of query) ⊎ ((plan : Plan) × IsMember catalogue queries query plan [])
  answered query (inl unsatisfiable) = inl (inl unsatisfiable)
  answered query (inr (plan, [], member)) = inr (plan, member)
  answered query (inr (plan, set ∷ sets, member)) =
      inl (inr (plan_query plan, set, option query plan (set ∷ sets) member set (Contains-head set sets)))

  empty_list : OneHasNoSet catalogue queries → HasEmptyList rules views patterns (queries_of queries)
  empty_list (query, inside, (plan, member)) = (
    query_of query,
    Contains-map query_of queries query inside,
    (plan_query plan, member.plan_of.receives, (λ set listed. Contains-nil set ((member.listed set).1 listed))),
  )

  pub no_rewriting : ChoiceExists → ChoiceIsExecutable → EmptyListExcludes
      → ((query : Query) → Contains queries query → HasSets catalogue queries query)
      → ((others : List ConjunctiveQuery) → ¬ (AreRewritingOf catalogue queries others)) ↔ OneHasNoSet catalogue queries
  no_rewriting exists executable excludes each = (
    λ none. elim (all_or_one (λ (query : Query). IsAnswered rules views patterns (queries_of queries) (query_of query))
        (λ (query : Query). (plan : Plan) × IsMember catalogue queries query plan []) queries
        (λ query inside. answered query (each query inside))) [
          | inl all ↦ (let choice = exists rules views patterns (queries_of queries) (λ other inside.
              let from = Contains-map_from query_of queries other inside in
              subst (IsAnswered rules views patterns (queries_of queries)) from.2 (all from.0 from.1)) in
              absurd (none choice.0 (executable rules views patterns (queries_of queries) choice.0 choice.1)))
          | inr one ↦ one
        ],
    λ one. excludes rules views patterns (queries_of queries) (empty_list one),
  )

  module _ (others : List ConjunctiveQuery) (picks : ArePicks catalogue queries others) where
    of_option : (other : ConjunctiveQuery) → Contains others other → IsOfOption rules views patterns (queries_of queries) other
    of_option other inside =
        let (query, in_union, (plan, sets, set, member, listed, is)) = picks.picked other inside in
        (query_of query, plan_query plan, set, option query plan sets member set listed, is)

    has_option : (query : Query) → Contains queries query → IsSatisfiable rules (query_of query)
        → HasOption rules views patterns (queries_of queries) others (query_of query)
    has_option query in_union satisfiable =
        let (other, inside, (plan, sets, set, member, listed, is)) = picks.each query in_union satisfiable in
        (plan_query plan, set, option query plan sets member set listed, subst (Contains others) (sym is) inside)

    pub picked : ChoiceIsExecutable → AreRewritingOf catalogue queries others
    picked executable = executable rules views patterns (queries_of queries) others (record {
      candidates = of_option;
      each = λ other inside satisfiable.
          let from = Contains-map_from query_of queries other inside in
          subst (HasOption rules views patterns (queries_of queries) others) from.2
          (has_option from.0 from.1 (subst (IsSatisfiable rules) (sym from.2) satisfiable));
    })
