-- The rows of the sets that are chosen for the members of a union are its answers.
use Rattle.std.proofs.Common.{◌≡◌, ℕ, true, List, filter, Contains, Option, refl, subst}
use Rattle.esto_mapping.specs.declared.catalogue.Catalogue.{Catalogue}
use Rattle.esto_constraint.specs.Constraints.{rules_of}
use Rattle.esto_list.specs.Items.{sets_of}
use Rattle.esto_list.specs.declared.listing.Listed.{Listed}
use Rattle.esto_steps.specs.Texts.{IsSafeQuery}
use Rattle.esto_rewriting.specs.PlannedLaws.{ClashExcludesAnswers, PlanHasForm, PlanReceivesUnions, PlanTellsAnswers}
use Rattle.esto_query.specs.Making.{query_of}
use Rattle.esto_query.specs.declared.query.Query.{Query}
use Rattle.esto_run.specs.Laws.{UnionsAnswerOverFiles}
use Rattle.esto_semantics.specs.Containment.{IsSatisfiable}
use Rattle.esto_semantics.specs.Queries.{ConjunctiveQuery}
use Rattle.esto_term.proofs.ListLemmas.{Contains-at, Contains-filter, Contains-filter_from, Contains-map}
use Rattle.esto_term.proofs.ZipLemmas.{zip_left, zip_right}
use Rattle.esto_union.specs.Laws.{ArePicks, IsPickOf, PicksAnswerUnion, PicksAreRewriting}
use Rattle.esto_views.specs.Fragments.{views_of}
use Rattle.esto_rewriting.specs.Members.{AreMembersOf, IsMemberOf, has_plan}
use Rattle.esto_rewriting.specs.Run.{AreChosen, IsChosenOf}
use Rattle.esto_rewriting.specs.RunLaws.{ChosenAreRewriting, RunsAnswerUnions}
use Rattle.esto_rewriting.specs.declared.members.Member.{Member}
use Rattle.esto_rewriting.specs.declared.members.Member.TheVariants.{Planned, Clashed}

module _ (form : PlanHasForm) (receives : PlanReceivesUnions) (satisfiable : PlanTellsAnswers) (unsatisfiable : ClashExcludesAnswers)
    (catalogue : Catalogue) (queries : List Query) (number : Option ℕ) where
  -- what is chosen of a member of a query is a pick of it
  pick_of : (query : Query) (member : Member) (other : ConjunctiveQuery) → IsMemberOf catalogue queries query member → IsChosenOf number member other
      → IsPickOf catalogue queries query other
  pick_of query (Planned plan items) other is (item, (place, is_place, there), same) = (
    plan,
    sets_of items,
    item.set,
    record {
      same_length = (form catalogue query plan is.0).same_length;
      plan_of = record { satisfiable = satisfiable catalogue query plan is.0; receives = receives catalogue query plan is.0 };
      listed = is.1.sets.exact;
    },
    Contains-map (λ (it : Listed). it.set) items item (Contains-at items place item there),
    same,
  )
  pick_of query (Clashed clash) other is chosen = absurd chosen

  safe_of : (query : Query) (member : Member) (other : ConjunctiveQuery) → IsMemberOf catalogue queries query member → IsChosenOf number member other
      → IsSafeQuery other
  safe_of query (Planned plan items) other is (item, (place, is_place, there), same) =
      subst IsSafeQuery same ((is.1.sets.exact item.set).0
      (Contains-map (λ (it : Listed). it.set) items item (Contains-at items place item there))).0.safe
  safe_of query (Clashed clash) other is chosen = absurd chosen

  -- a member of a satisfiable query has a plan
  plan_of : (query : Query) (member : Member) → IsMemberOf catalogue queries query member → IsSatisfiable (rules_of catalogue.rules) (query_of query)
      → has_plan member ≡ true
  plan_of query (Planned plan items) is answers = refl
  plan_of query (Clashed clash) is answers = absurd (unsatisfiable catalogue query clash is answers)

  module _ (members : List Member) (are : AreMembersOf catalogue queries members) (others : List ConjunctiveQuery)
      (chosen : AreChosen number members others) where
    of_member : (other : ConjunctiveQuery) → Contains others other
        → (query : Query) × (member : Member) × Contains queries query × IsMemberOf catalogue queries query member × IsChosenOf number member other
    of_member other inside =
        let (member, kept, from) = zip_right (IsChosenOf number) (filter has_plan members) others chosen other inside in
        let found = Contains-filter_from has_plan members member kept in
        let (query, in_union, is) = zip_right (IsMemberOf catalogue queries) queries members are member found.0 in
        (query, member, in_union, is, from)

    pub are_picks : ArePicks catalogue queries others
    are_picks = record {
      picked = λ other inside.
          let (query, member, in_union, is, from) = of_member other inside in (query, in_union, pick_of query member other is from);
      each = λ query in_union answers.
          let (member, among, is) = zip_left (IsMemberOf catalogue queries) queries members are query in_union in
          let (other, inside, from) = zip_left (IsChosenOf number) (filter has_plan members) others chosen member
          (Contains-filter has_plan members member among (plan_of query member is answers)) in
          (other, inside, pick_of query member other is from);
    }

    pub safe_others : (other : ConjunctiveQuery) → Contains others other → IsSafeQuery other
    safe_others other inside = let (query, member, in_union, is, from) = of_member other inside in safe_of query member other is from

pub chosen_rewrite : PlanHasForm → PlanReceivesUnions → PlanTellsAnswers → ClashExcludesAnswers → PicksAreRewriting → ChosenAreRewriting
chosen_rewrite form receives satisfiable unsatisfiable picks catalogue queries number members others are chosen =
    picks catalogue queries others (are_picks form receives satisfiable unsatisfiable catalogue queries number members are others chosen)

pub runs_answer : PlanHasForm → PlanReceivesUnions → PlanTellsAnswers → ClashExcludesAnswers → PicksAnswerUnion → UnionsAnswerOverFiles → RunsAnswerUnions
runs_answer form receives satisfiable unsatisfiable picks over catalogue queries number members others contents database are chosen meets hold values =
    let union = picks catalogue queries others (are_picks form receives satisfiable unsatisfiable catalogue queries number members are others chosen)
    database meets values in
    let rows = over (views_of catalogue.fragments) database others catalogue.stores contents
    (λ other inside.
    (safe_others form receives satisfiable unsatisfiable catalogue queries number members are others chosen other inside, hold other inside)) values in (
      (λ answer. rows.0 (union.1 answer)),
      (λ found. union.0 (rows.1 found)),
    )
