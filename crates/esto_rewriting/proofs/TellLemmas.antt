-- What the members of a union tell of its queries and of its rewritings.
use Rattle.std.proofs.Common.{◌≡◌, ◌⊎◌, ◌↔◌, inl, inr, true, false, List, [], ◌∷◌, Contains, refl, subst}
use Rattle.std.specs.List.{AllZip}
use Rattle.esto_mapping.specs.declared.catalogue.Catalogue.{Catalogue}
use Rattle.esto_constraint.specs.Constraints.{rules_of}
use Rattle.esto_list.specs.Items.{sets_of}
use Rattle.esto_semantics.specs.UnionLaws.{ChoiceExists, ChoiceIsExecutable, EmptyListExcludes, ListedCoverUnions, ReceivingIsUniversal}
use Rattle.esto_semantics.specs.UnionSets.{HasEmptyList, IsAnswered}
use Rattle.esto_rewriting.specs.PlannedLaws.{ClashExcludesAnswers, CoreHasNoRetract, CoreIsOnly, PlanHasForm, PlanReceivesUnions, PlanTellsAnswers}
use Rattle.esto_query.specs.Making.{query_of}
use Rattle.esto_query.specs.declared.query.Query.{Query}
use Rattle.esto_semantics.specs.Access.{Patterns}
use Rattle.esto_semantics.specs.Queries.{ConjunctiveQuery}
use Rattle.esto_semantics.specs.Rules.{Rule}
use Rattle.esto_term.proofs.ListLemmas.{Contains-cases, Contains-head, Contains-map, Contains-map_from, Contains-nil, Contains-rest}
use Rattle.esto_term.proofs.ZipLemmas.{zip_right, zip_weaker}
use Rattle.esto_union.specs.Unions.{queries_of}
use Rattle.esto_views.specs.Fragments.{patterns_of, views_of}
use Rattle.esto_views.specs.Plans.{plan_query}
use Rattle.esto_views.specs.declared.plan.Plan.{Plan}
use Rattle.esto_rewriting.specs.Exact.{CoversUnions, HasNoRewriting, HasOnlyCore, HasUniversalPlan, TellsSatisfiable}
use Rattle.esto_rewriting.specs.UnionLaws.{EmptyListsAreTold, MembersAreCores, MembersAreUniversal, MembersCoverUnions, MembersTellSatisfiable}
use Rattle.esto_rewriting.specs.Members.{AreMembersOf, IsMemberOf, OneIsEmpty}
use Rattle.esto_rewriting.specs.declared.members.Member.{Member}
use Rattle.esto_rewriting.specs.declared.members.Member.TheVariants.{Planned, Clashed}

-- the laws by which members tell of queries and rewritings
pub record TellLaws : Type 0 where
  pub form : PlanHasForm
  pub receives : PlanReceivesUnions
  pub satisfiable : PlanTellsAnswers
  pub unsatisfiable : ClashExcludesAnswers
  pub universal : ReceivingIsUniversal
  pub core : CoreHasNoRetract
  pub only_core : CoreIsOnly
  pub cover : ListedCoverUnions
  pub excludes : EmptyListExcludes
  pub exists : ChoiceExists
  pub executable : ChoiceIsExecutable

module _ (laws : TellLaws) (catalogue : Catalogue) (queries : List Query) where
  abbrev rules : List Rule
  rules = rules_of catalogue.rules

  abbrev views : List ConjunctiveQuery
  views = views_of catalogue.fragments

  abbrev patterns : Patterns
  patterns = patterns_of catalogue.fragments

  -- ---- satisfiable queries

  tells : (query : Query) (member : Member) → IsMemberOf catalogue queries query member → TellsSatisfiable catalogue query member
  tells query (Planned plan items) is = (
    λ has. laws.satisfiable catalogue query plan is.0,
    λ satisfiable. refl,
  )
  tells query (Clashed clash) is = (
    λ has. absurd (let never : false ≡ true = has in cc),
    λ satisfiable. absurd (laws.unsatisfiable catalogue query clash is satisfiable),
  )

  universal : (query : Query) (member : Member) → IsMemberOf catalogue queries query member → HasUniversalPlan catalogue query member
  universal query (Planned plan items) is = laws.universal rules views (query_of query) (plan_query plan) (laws.receives catalogue query plan is.0)
  universal query (Clashed clash) is = tt

  cored : (query : Query) (member : Member) → IsMemberOf catalogue queries query member → HasOnlyCore catalogue query member
  cored query (Planned plan items) is = λ core. (laws.core catalogue query plan is.0 core, laws.only_core catalogue query plan is.0 core)
  cored query (Clashed clash) is = tt

  -- ---- rewritings

  covers : (member : Member) (query : Query) → Contains queries query → IsMemberOf catalogue queries query member → CoversUnions catalogue queries member
  covers (Clashed clash) query inside is = tt
  covers (Planned plan items) query inside is = λ others rewriting.
      laws.cover rules views patterns (queries_of queries) others (query_of query) (plan_query plan) (sets_of items)
      (Contains-map query_of queries query inside) (laws.receives catalogue query plan is.0) is.1.sets rewriting

  empty_list : (query : Query) (plan : Plan) → Contains queries query → IsMemberOf catalogue queries query (Planned plan [])
      → HasEmptyList rules views patterns (queries_of queries)
  empty_list query plan inside is = (
    query_of query,
    Contains-map query_of queries query inside,
    (plan_query plan, laws.receives catalogue query plan is.0, (λ set listed. Contains-nil set ((is.1.sets.exact set).1 listed))),
  )

  -- a query may be answered, or its list is empty
  answered : (query : Query) (member : Member) → IsMemberOf catalogue queries query member
      → IsAnswered rules views patterns (queries_of queries) (query_of query) ⊎ ((plan : Plan) × (member ≡ Planned plan []))
  answered query (Clashed clash) is = inl (inl (laws.unsatisfiable catalogue query clash is))
  answered query (Planned plan []) is = inr (plan, refl)
  answered query (Planned plan (item ∷ items)) is =
      inl (inr (
        plan_query plan,
        item.set,
        record {
          form = laws.form catalogue query plan is.0;
          universal = universal query (Planned plan (item ∷ items)) is;
          rewriting = ((is.1.sets.exact item.set).0 (Contains-head item.set (sets_of items))).0;
        },
      ))

  all_answered : (some : List Query) (members : List Member) → AllZip (IsMemberOf catalogue queries) some members
      → ((query : Query) → Contains some query → IsAnswered rules views patterns (queries_of queries) (query_of query)) ⊎ OneIsEmpty members
  all_answered [] members zip = inl (λ query inside. absurd (Contains-nil query inside))
  all_answered (query ∷ some) [] zip = absurd zip
  all_answered (query ∷ some) (member ∷ members) (is, rest) = by (answered query member is) (all_answered some members rest)
    where
      by : IsAnswered rules views patterns (queries_of queries) (query_of query) ⊎ ((plan : Plan) × (member ≡ Planned plan []))
          → ((other : Query) → Contains some other → IsAnswered rules views patterns (queries_of queries) (query_of other)) ⊎ OneIsEmpty members
          → ((other : Query) → Contains (query ∷ some) other → IsAnswered rules views patterns (queries_of queries) (query_of other))
          ⊎ OneIsEmpty (member ∷ members)
      by (inr (plan, is)) later = inr (plan, subst (Contains (member ∷ members)) is (Contains-head member members))
      by (inl now) (inr (plan, inside)) = inr (plan, Contains-rest member members (Planned plan []) inside)
      by (inl now) (inl later) = inl (λ other inside. elim (Contains-cases query some other inside) [
        | inl is ↦ subst (λ (it : Query). IsAnswered rules views patterns (queries_of queries) (query_of it)) is now
        | inr more ↦ later other more
      ])

  empty : (members : List Member) → AreMembersOf catalogue queries members → OneIsEmpty members ↔ HasNoRewriting catalogue queries
  empty members are = (
    λ (plan, inside).
        let (query, in_union, is) = zip_right (IsMemberOf catalogue queries) queries members are (Planned plan []) inside in
        laws.excludes rules views patterns (queries_of queries) (empty_list query plan in_union is),
    λ none. elim (all_answered queries members are) [
      | inl all ↦ (let choice = laws.exists rules views patterns (queries_of queries) (λ other inside.
          let from = Contains-map_from query_of queries other inside in
          subst (IsAnswered rules views patterns (queries_of queries)) from.2 (all from.0 from.1)) in
          absurd (none choice.0 (laws.executable rules views patterns (queries_of queries) choice.0 choice.1)))
      | inr one ↦ one
    ],
  )

module _ (laws : TellLaws) where
  pub members_tell : MembersTellSatisfiable
  members_tell catalogue queries members are =
      zip_weaker (IsMemberOf catalogue queries) (TellsSatisfiable catalogue) queries members
      (λ query member _ is. tells laws catalogue queries query member is) are

  pub members_universal : MembersAreUniversal
  members_universal catalogue queries members are =
      zip_weaker (IsMemberOf catalogue queries) (HasUniversalPlan catalogue) queries members
      (λ query member _ is. universal laws catalogue queries query member is) are

  pub members_cored : MembersAreCores
  members_cored catalogue queries members are =
      zip_weaker (IsMemberOf catalogue queries) (HasOnlyCore catalogue) queries members
      (λ query member _ is. cored laws catalogue queries query member is) are

  pub members_cover : MembersCoverUnions
  members_cover catalogue queries members are member inside =
      let (query, in_union, is) = zip_right (IsMemberOf catalogue queries) queries members are member inside in
      covers laws catalogue queries member query in_union is

  pub empty_told : EmptyListsAreTold
  empty_told catalogue queries members are = empty laws catalogue queries members are
