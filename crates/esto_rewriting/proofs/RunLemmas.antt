-- The run of the sets that are chosen for the members of a union.
use Rattle.std.proofs.Common.{◌≡◌, ◌↔◌, ◌<◌, ℕ, Bool, List, length, get_or, map, filter, Contains, slice_get, Option, Some, None, Result}
use Rattle.std.proofs.Common.{refl, sym, ap, subst, ◌∙◌}
use Rattle.std.proofs.lemmas.Option.{slice_get_within, slice_get_read}
use Rattle.esto_mapping.specs.declared.catalogue.Catalogue.{Catalogue}
use Rattle.esto_chase_laws.specs.declared.clash.Clash.{Clash}
use Rattle.esto_course.specs.Course.{Stops, judges, gives, and_then}
use Rattle.esto_course.proofs.Steps.{first_stops, then_goes, then_stops}
use Rattle.esto_list.specs.declared.listing.Listed.{Listed}
use Rattle.esto_status.specs.Answers.{Answers, IsCaused, IsWant}
use Rattle.esto_run.specs.Fragments.{opens_fragments}
use Rattle.esto_status.specs.declared.reply.Reply.{Reply}
use Rattle.esto_status.specs.declared.reply.Reply.TheVariants.{Done}
use Rattle.esto_status.specs.declared.status.Status.{Status}
use Rattle.esto_status.proofs.Steps.{next_answers, still_stops}
use Rattle.esto_steps.specs.Rows.{IsRowOf, held_by}
use Rattle.esto_rewriting.specs.PlannedLaws.{PlanHasForm, PlanIsOver}
use Rattle.esto_ports.specs.Files.{Files}
use Rattle.esto_query.specs.declared.query.Query.{Query}
use Rattle.esto_run.specs.Answers.{IsAnswersText}
use Rattle.esto_run.specs.Laws.{AnswersAreOverFiles, IsAnswerOfOne, IsAnswerOver, UsesOnly}
use Rattle.esto_run.specs.Opened.{AreOpened}
use Rattle.esto_run.specs.Picks.{IsRunnable, candidate_of}
use Rattle.esto_docs.specs.Stores.{IsFileRow}
use Rattle.esto_run.specs.Used.{AreUsedByAll, fragments_of}
use Rattle.esto_run.specs.declared.picks.Pick.{Pick}
use Rattle.esto_semantics.specs.Access.{IsOrder, IsStatedOrder}
use Rattle.esto_semantics.specs.Listed.{IsSafe}
use Rattle.esto_semantics.specs.ListedLaws.{ChosenAreNamed}
use Rattle.esto_semantics.specs.Queries.{ConjunctiveQuery}
use Rattle.esto_semantics.specs.declared.fact.Fact.{Fact}
use Rattle.esto_stores.specs.Rows.{Row}
use Rattle.esto_term.specs.declared.term.Term.{Term}
use Rattle.esto_term.proofs.ListLemmas.{Contains-at, Contains-filter_from, Contains-flat, Contains-flat_from, Contains-map, Contains-map_from}
use Rattle.esto_term.proofs.ZipLemmas.{zip_right}
use Rattle.esto_term.proofs.PlaceLemmas.{all_at}
use Rattle.esto_union.specs.Unions.{IsListedIn}
use Rattle.esto_views.specs.Fragments.{patterns_of}
use Rattle.esto_views.specs.Plans.{IsPlanOver, fact_of, plan_query}
use Rattle.esto_views.specs.declared.fragments.FragmentDef.{FragmentDef}
use Rattle.esto_views.specs.declared.plan.Plan.{Plan}
use Rattle.esto_rewriting.specs.Members.{AreMembersOf, ClashAt, HavePlan, IsMemberOf, has_plan}
use Rattle.esto_rewriting.specs.Picking.{ArePicksOf, IsPickFrom, IsPickOf}
use Rattle.esto_rewriting.specs.Run.{AreChosen, IsNoRows, IsUnionRunText, chooses_each, ends_members, runs_chosen, runs_end, runs_members}
use Rattle.esto_rewriting.specs.declared.members.Member.{Member}
use Rattle.esto_rewriting.specs.declared.members.Member.TheVariants.{Planned, Clashed}

-- ---- picks can be run

module _ (form : PlanHasForm) (over : PlanIsOver) (catalogue : Catalogue) (queries : List Query) where
  runnable : (query : Query) (plan : Plan) (items : List Listed) → IsMemberOf catalogue queries query (Planned plan items) → (number : Option ℕ) (pick : Pick)
      → IsPickFrom plan items number pick → IsRunnable catalogue.fragments pick
  runnable query plan items is number pick (plan_is, (item, (place, is_place, there), set_is, order_is)) = record {
    over = subst (λ (it : Plan). IsPlanOver it catalogue.fragments) (sym plan_is) (over catalogue query plan is.0);
    safe = subst (λ (it : Plan). IsSafe (plan_query it) pick.set.now) (sym plan_is)
        (subst (λ (it : List Bool). IsSafe (plan_query plan) it) (sym set_is) listed.0.safe);
    order = subst (λ (it : Plan). IsOrder (patterns_of catalogue.fragments) (plan_query it).body pick.set.now pick.order.now) (sym plan_is)
        (subst (λ (it : List Bool). IsOrder (patterns_of catalogue.fragments) (plan_query plan).body it pick.order.now) (sym set_is)
        (subst (λ (it : List ℕ). IsOrder (patterns_of catalogue.fragments) (plan_query plan).body item.set it) (sym order_is) stated.is_order));
  }
    where
      listed : IsListedIn catalogue queries plan item.set
      listed = (is.1.sets.exact item.set).0 (Contains-map (λ (it : Listed). it.set) items item (Contains-at items place item there))

      stated : IsStatedOrder (patterns_of catalogue.fragments) (plan_query plan).body item.set item.order
      stated = all_at (λ it. IsStatedOrder (patterns_of catalogue.fragments) (plan_query plan).body it.set it.order) items is.1.orders place item there

  -- a pick of a member of a query can be run, and its plan's head is as long as the query's
  pick_of_member : (query : Query) (member : Member) → IsMemberOf catalogue queries query member → (number : Option ℕ) (pick : Pick)
      → IsPickOf number member pick
      → IsRunnable catalogue.fragments pick × (length pick.plan.now.head ≡ length query.head)
  pick_of_member query (Planned plan items) is number pick from = (
    runnable query plan items is number pick from,
    ap (λ (it : Plan). length it.head) from.0 ∙ (form catalogue query plan is.0).same_length,
  )
  pick_of_member query (Clashed clash) is number pick from = absurd from

  pub of_member : (members : List Member) (number : Option ℕ) (picks : List Pick) → AreMembersOf catalogue queries members
      → ArePicksOf number members picks → (pick : Pick) → Contains picks pick
      → (query : Query) × Contains queries query × IsRunnable catalogue.fragments pick × (length pick.plan.now.head ≡ length query.head)
  of_member members number picks are picked pick inside =
      let (member, kept, from) = zip_right (IsPickOf number) (filter has_plan members) picks picked pick inside in
      let found = Contains-filter_from has_plan members member kept in
      let (query, in_union, is) = zip_right (IsMemberOf catalogue queries) queries members are member found.0 in
      let both = pick_of_member query member is number pick from in
      (query, in_union, both.0, both.1)

-- ---- the fragments

-- the fragments that picks use are there
pub used_are_there : ChosenAreNamed → (fragments : List FragmentDef) (picks : List Pick) (numbers : List ℕ)
    → ((pick : Pick) → Contains picks pick → IsRunnable fragments pick) → AreUsedByAll (map candidate_of picks) numbers
    → (number : ℕ) → Contains numbers number → number < length fragments
used_are_there named fragments picks numbers runs used number inside =
    let (other, among, of_it) = Contains-flat_from (λ (it : ConjunctiveQuery). fragments_of it.body) (map candidate_of picks) number
    ((used.exact number).0 inside) in
    let (pick, in_picks, is) = Contains-map_from candidate_of picks other among in
    let (atom, chosen, same) = Contains-map_from (λ (it : Fact Term). it.relation) (candidate_of pick).body number
    (subst (λ (it : ConjunctiveQuery). Contains (fragments_of it.body) number) (sym is) of_it) in
    let (place, has, at) = (named pick.set.now (plan_query pick.plan.now).body atom).0 chosen in
    let own = Contains-map_from fact_of pick.plan.now.atoms atom (Contains-at (plan_query pick.plan.now).body place atom at) in
    let found = (runs pick in_picks).over own.0 own.1 in
    subst (λ (it : ℕ). it < length fragments) (ap (λ (it : Fact Term). it.relation) own.2 ∙ same)
    (slice_get_within fragments own.0.fragment found.0 found.1)

-- and they are all that their candidates use
uses_only : (others : List ConjunctiveQuery) (numbers : List ℕ) → AreUsedByAll others numbers → (other : ConjunctiveQuery) → Contains others other
    → UsesOnly numbers other
uses_only others numbers used other inside atom among =
    (used.exact atom.relation).1 (Contains-flat (λ (it : ConjunctiveQuery). fragments_of it.body) others other atom.relation inside
    (Contains-map (λ (it : Fact Term). it.relation) other.body atom among))

-- ---- the text

-- the first query, which is read
pub first_of : (queries : List Query) (first : Query) → 0 < length queries → first ≡ get_or queries 0 first → slice_get queries 0 ≡ Some first
first_of queries first some is = slice_get_read queries (length queries) 0 first refl some is

-- over the rows of the files of all fragments that are used, the text is that of the answers over the files
pub text_over_files : AnswersAreOverFiles → (catalogue : Catalogue) (queries : List Query) (first : Query) → slice_get queries 0 ≡ Some first
    → (others : List ConjunctiveQuery) (numbers : List ℕ) (contents : ℕ → List ℕ) (opened : List (List Row)) (text : List ℕ) → AreUsedByAll others numbers
    → AreOpened catalogue.stores contents numbers opened → IsAnswersText first (IsAnswerOfOne (IsRowOf (held_by opened)) others) text
    → IsUnionRunText catalogue queries others contents text
text_over_files over catalogue queries first at others numbers contents opened text used are is = (
  first,
  at,
  record {
    rows = is.rows;
    exact = λ row. (
      (λ inside. let (other, among, answer) = (is.exact row).0 inside in (other, among, (same other among row).0 answer)),
      (λ (other, among, answer). (is.exact row).1 (other, among, (same other among row).1 answer)),
    );
    rising = is.rising;
    printed = is.printed;
  },
)
  where
    same : (other : ConjunctiveQuery) → Contains others other → (row : Row)
        → IsAnswerOver (IsRowOf (held_by opened)) other row ↔ IsAnswerOver (IsFileRow catalogue.stores contents) other row
    same other among = over catalogue.stores contents numbers opened other are (uses_only others numbers used other among)

-- ---- the course of what is chosen

module _ (files : Option Files) (catalogue : Catalogue) (queries : List Query) (others : List ConjunctiveQuery) (numbers : List ℕ)
    (used : AreUsedByAll others numbers) where
  -- a file of theirs is not opened
  pub chosen_stops : {rose : Type 0} {refusal : Status} → Stops IsWant (IsCaused rose) (opens_fragments files catalogue numbers) refusal
      → Stops IsWant (IsCaused rose) (runs_chosen files catalogue queries others) refusal
  unfolding judges
  chosen_stops stops = then_stops (judges (AreUsedByAll others) (λ _. ⊥)) _ numbers used (first_stops _ _ stops)

  -- all are opened, and the text is made
  pub chosen_goes : (contents : ℕ → List ℕ) (text : List ℕ) → (opens_fragments files catalogue numbers).goes contents
      → IsUnionRunText catalogue queries others contents text → (runs_chosen files catalogue queries others).goes (Done text)
  unfolding and_then judges gives
  chosen_goes contents text goes is = (numbers, used, (contents, goes, (text, is, refl)))

-- ---- the course of members

module _ (files : Option Files) (catalogue : Catalogue) (queries : List Query) (number : Option ℕ) (members : List Member) where
  -- none has a plan
  pub clash_goes : (clash : Clash) → ClashAt members clash → (reply : Reply) → IsNoRows queries clash reply
      → (runs_members files catalogue queries number members).goes reply
  unfolding judges
  clash_goes clash at reply is = then_goes (ends_members members) (runs_end files catalogue queries number members) (Some clash) reply at is

  module _ (some : HavePlan members) where
    -- no sets are chosen
    pub choice_stops : {rose : Type 0} {refusal : Status} → Stops IsWant (IsCaused ⊥) (chooses_each members number) refusal
        → Stops IsWant (IsCaused rose) (runs_members files catalogue queries number members) refusal
    unfolding judges
    choice_stops stops = then_stops (ends_members members) (runs_end files catalogue queries number members) None some
        (still_stops (chooses_each members number) (runs_chosen files catalogue queries) stops)

    module _ (others : List ConjunctiveQuery) (chosen : AreChosen number members others) where
      -- those that are chosen are run
      pub picks_answer : (rose : Type 0) (result : Result Reply Status) → Answers (runs_chosen files catalogue queries others) rose result
          → Answers (runs_members files catalogue queries number members) rose result
      unfolding judges
      picks_answer rose result answer = next_answers (ends_members members) (runs_end files catalogue queries number members) rose None result some
          (next_answers (chooses_each members number) (runs_chosen files catalogue queries) rose others result chosen answer)
