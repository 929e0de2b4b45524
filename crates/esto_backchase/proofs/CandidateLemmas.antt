-- The candidate of a set, by what the plan's expansion has for the set.
use Rattle.std.proofs.Common.{◌≡◌, ◌≢◌, ◌↔◌, ℕ, ◌<◌, ◌≤◌, ◌+◌, Bool, true, false, cond, List, [], ◌∷◌, ◌++◌, length, drop, get_or, slice_index_or}
use Rattle.std.proofs.Common.{Contains, refl, sym, ap, subst, ◌∙◌, arith}
use Rattle.std.specs.Bool.{⊤}
use Rattle.std.proofs.lemmas.Bool.{false_from_ne_true}
use Rattle.std.proofs.lemmas.List.{append-nil, append_assoc, drop_all, length-map}
use Rattle.either.specs.Either.{MatchEither}
use Rattle.either.specs.declared.Either.{Either}
use Rattle.either.specs.declared.Either.TheVariants.{Left, Right}
use Rattle.esto_term.specs.declared.term.Term.{Term}
use Rattle.esto_term.proofs.ListLemmas.{Contains-head, Contains-map, Contains-nil}
use Rattle.esto_term.proofs.PlaceLemmas.{drop-item}
use Rattle.esto_semantics.specs.Containment.{IsContained, IsSatisfiable}
use Rattle.esto_semantics.specs.ExpansionLaws.{ExpansionAnswers, ExpansionIsContained, PartExpandsCandidate}
use Rattle.esto_semantics.specs.Expansions.{IsExpansion, IsPartOf}
use Rattle.esto_semantics.specs.Instances.{IsFinished, IsUniversalFor, MapsTo}
use Rattle.esto_semantics.specs.Listed.{candidate}
use Rattle.esto_semantics.specs.Maps.{AreFlat}
use Rattle.esto_semantics.specs.Queries.{ConjunctiveQuery, IsAnswer}
use Rattle.esto_semantics.specs.Rules.{Rule, AreRules}
use Rattle.esto_term.specs.Sets.{Has, numbers}
use Rattle.esto_semantics.specs.Views.{IsFragmentAnswer}
use Rattle.esto_semantics.specs.declared.fact.Fact.{Fact}
use Rattle.esto_term.proofs.SetLemmas.{numbers_have}
use Rattle.esto_chase.specs.Chased.{IsFinishedRun, RunClashes}
use Rattle.esto_chase.specs.declared.chasing.Chased.{Chased}
use Rattle.esto_chase_laws.specs.RunLaws.{StartsHaveTheBody}
use Rattle.esto_chase_laws.specs.Runs.{IsStart, start_of}
use Rattle.esto_chase_laws.specs.declared.clash.Clash.{Clash}
use Rattle.esto_instance.specs.Instances.{state_of}
use Rattle.esto_views.specs.Expanded.{Expands, facts_chosen}
use Rattle.esto_semantics.specs.Expanded.{facts_of}
use Rattle.esto_views.specs.Fragments.{views_of}
use Rattle.esto_views.specs.Plans.{fact_of, plan_query}
use Rattle.esto_views.specs.Soundness.{IsSoundPlan}
use Rattle.esto_semantics.specs.declared.expanded.ExpandedFact.{ExpandedFact}
use Rattle.esto_views.specs.declared.fragments.FragmentDef.{FragmentDef}
use Rattle.esto_views.specs.declared.plan.Plan.{Plan}
use Rattle.esto_views.proofs.FlatLemmas.{named-flat}
use Rattle.esto_views.proofs.ChosenLemmas.{chosen-from, chosen-is_part}

-- ---- sets with a number

pub size-none : (set : List Bool) → length (numbers set) ≡ 0 → (number : ℕ) → Has set number → ⊥
size-none set none number has = by (numbers set) none ((numbers_have set number).1 has)
  where
    by : (its : List ℕ) → length its ≡ 0 → Contains its number → ⊥
    by [] zero inside = Contains-nil number inside
    by (first ∷ rest) zero inside = omega (arith, zero)

pub size-some : (set : List Bool) → length (numbers set) ≢ 0 → (number : ℕ) × Has set number
size-some set some = by (numbers set) refl
  where
    by : (its : List ℕ) → numbers set ≡ its → (number : ℕ) × Has set number
    by [] is = absurd (some (subst (λ its. length its ≡ 0) (sym is) refl))
    by (first ∷ rest) is = (first, (numbers_have set first).0 (subst (λ its. Contains its first) (sym is) (Contains-head first rest)))

-- ---- the facts that come from atoms of a set

-- the facts that are chosen of the parts so far, and then those of the parts that are left, are all that are chosen
module _ (set : List Bool) (expanded : List ExpandedFact) (place : ℕ) (facts : List (Fact Term))
    (so_far : facts ++ facts_chosen set (drop place expanded) ≡ facts_chosen set expanded) where
  module _ (part : ExpandedFact) (below : place < length expanded) (is : part ≡ get_or expanded place part) where
    at_part : facts ++ cond (slice_index_or set part.atom false) (part.fact ∷ facts_chosen set (drop (place + 1) expanded))
        (facts_chosen set (drop (place + 1) expanded)) ≡ facts_chosen set expanded
    at_part =
        subst (λ (it : List ExpandedFact). facts ++ facts_chosen set it ≡ facts_chosen set expanded) (drop-item expanded place part below is) so_far

    told : (answer : Bool) → slice_index_or set part.atom false ≡ answer
        → facts ++ cond answer (part.fact ∷ facts_chosen set (drop (place + 1) expanded)) (facts_chosen set (drop (place + 1) expanded))
        ≡ facts_chosen set expanded
    told answer same =
        subst (λ (it : Bool). facts ++ cond it (part.fact ∷ facts_chosen set (drop (place + 1) expanded)) (facts_chosen set (drop (place + 1) expanded))
        ≡ facts_chosen set expanded) same at_part

    -- the next part is chosen
    pub chosen-taken : Has set part.atom → (next : List (Fact Term)) → next ≡ facts ++ part.fact ∷ []
        → next ++ facts_chosen set (drop (place + 1) expanded) ≡ facts_chosen set expanded
    chosen-taken has next grown =
        ap (λ (it : List (Fact Term)). it ++ facts_chosen set (drop (place + 1) expanded)) grown
        ∙ append_assoc facts (part.fact ∷ []) (facts_chosen set (drop (place + 1) expanded)) ∙ told true has

    -- it is not
    pub chosen-passed : ¬ (Has set part.atom) → facts ++ facts_chosen set (drop (place + 1) expanded) ≡ facts_chosen set expanded
    chosen-passed missing = told false (false_from_ne_true _ missing)

  -- no part is left
  pub chosen-ends : length expanded ≤ place → facts ≡ facts_chosen set expanded
  chosen-ends past =
      sym (append-nil facts)
      ∙ subst (λ (it : List ExpandedFact). facts ++ facts_chosen set it ≡ facts_chosen set expanded) (drop_all place expanded past) so_far

module _ (plan : Plan) (fragments : List FragmentDef) (expanded : List ExpandedFact) (expands : Expands plan fragments expanded) (set : List Bool)
    (over : length set ≡ length plan.atoms) (begin : StartsHaveTheBody) where
  abbrev pub chosen_start : ConjunctiveQuery
  chosen_start = start_of (record { head = plan.head; body = facts_chosen set expanded })

  pub chosen-in_start : (fact : Fact Term) → Contains chosen_start.body fact ↔ Contains (facts_chosen set expanded) fact
  chosen-in_start fact = begin (record { head = plan.head; body = facts_chosen set expanded }) fact

  -- the start has no made term
  pub chosen-starts : AreFlat (facts_of expanded) → IsSoundPlan plan.atoms plan.head plan.names → IsStart chosen_start
  chosen-starts flat sound = record {
    flat_body = λ term (fact, there, inside).
        let from = chosen-from set expanded fact ((chosen-in_start fact).0 there) in
        flat term (
          from.0.fact,
          Contains-map (λ (it : ExpandedFact). it.fact) expanded from.0 from.1,
          subst (λ (it : Fact Term). Contains it.terms term)
              (sym from.3) inside,
        );
    flat_head = λ term inside. named-flat plan term (sound.named_head term inside);
  }

  -- it has the part of the expansion that is the set's
  start-is_part : IsPartOf expands.of set chosen_start.body
  start-is_part fact =
      let part = chosen-is_part plan fragments expanded expands set over fact in
      (λ inside. part.0 ((chosen-in_start fact).0 inside), λ found. (chosen-in_start fact).1 (part.1 found))

  module _ (rules : List Rule) (query : ConjunctiveQuery) (expand_candidates : PartExpandsCandidate) where
    abbrev IsIn : Type 0
    IsIn = IsContained rules (IsFragmentAnswer (views_of fragments) (candidate (plan_query plan) set)) (IsAnswer query)

    start-expands : IsExpansion (views_of fragments) (candidate (plan_query plan) set) chosen_start.body
    start-expands =
        expand_candidates (views_of fragments) (plan_query plan) (facts_of expanded) expands.of set (over ∙ sym (length-map plan.atoms fact_of))
        chosen_start.body start-is_part

    -- the candidate is contained in the query where that maps to the end of a chase
    pub contained-mapped : ExpansionIsContained → AreRules rules → (start end : ConjunctiveQuery) → start ≡ chosen_start → IsUniversalFor rules start end
        → IsFinished rules end
        → IsIn ↔ MapsTo query end
    contained-mapped decide are start end is universal finished =
        decide rules (views_of fragments) (candidate (plan_query plan) set) chosen_start.body end query are start-expands
        (subst (λ it. IsUniversalFor rules it end) is universal) finished

    -- and where the chase clashes it has no answer
    pub contained-clashed : ExpansionAnswers → (start : ConjunctiveQuery) → start ≡ chosen_start → ¬ (IsSatisfiable rules start) → IsIn
    contained-clashed answers start is none database meets row answer =
        let own_answer = (answers (views_of fragments) (candidate (plan_query plan) set) chosen_start.body start-expands database row).0 answer in
        absurd (none (subst (IsSatisfiable rules) (sym is) (database, meets, (row, own_answer))))

    -- the query is received at the end of the chase, or the chase clashes
    pub contained-received : ExpansionIsContained → ExpansionAnswers → AreRules rules → (start : ConjunctiveQuery) → start ≡ chosen_start
        → (outcome : Either Chased Clash)
        → MatchEither outcome (λ chased. IsFinishedRun rules start chased.instance) (RunClashes rules start)
        → MatchEither outcome (λ chased. IsUniversalFor rules start (state_of chased.instance)) (λ _. ⊤)
        → MatchEither outcome (λ _. IsSatisfiable rules start) (λ _. ¬ (IsSatisfiable rules start))
        → MatchEither outcome (λ chased. MapsTo query (state_of chased.instance)) (λ _. ⊤) ↔ IsIn
    contained-received decide answers are start is (Left chased) run universal _ =
        let contained = contained-mapped decide are start (state_of chased.instance) is universal run.finished in
        (λ maps. contained.1 maps, λ within. contained.0 within)
    contained-received decide answers are start is (Right clash) _ _ none = (λ _. contained-clashed answers start is none, λ _. tt)
