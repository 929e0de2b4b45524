-- The courses of `contains` and of `minimise` come to an end.
use Rattle.std.proofs.Common.{◌≡◌, ◌≢◌, inl, inr, ℕ, Bool, List, [], length, Contains, refl, subst, arith}
use Rattle.std.specs.Prelude.{codes}
use Rattle.std.proofs.lemmas.Bool.{cases_eq}
use Rattle.esto_mapping.specs.declared.catalogue.Catalogue.{Catalogue}
use Rattle.esto_chase_laws.specs.ReceivedLaws.{FinishedRunsDecide}
use Rattle.esto_chase.specs.Chased.{RunClashes}
use Rattle.esto_chase_laws.specs.Runs.{Step, IsEnd, IsRun, IsStart, start_of}
use Rattle.esto_chase_laws.specs.declared.clash.Clash.{Clash}
use Rattle.esto_contain.specs.Contained.{TellsContained}
use Rattle.esto_contain.proofs.MinimisedLemmas.{facts_flat, facts_universal}
use Rattle.esto_contain.specs.declared.minimising.Minimal.{Minimal}
use Rattle.esto_contain.specs.declared.containing.Contain.{Contain}
use Rattle.esto_contain.specs.declared.containing.Contain.TheVariants.{Yes, No}
use Rattle.esto_course.specs.Course.{and_then, demands}
use Rattle.esto_status.specs.Answers.{IsCaused}
use Rattle.esto_status.specs.declared.status.Status.{Status}
use Rattle.esto_status.specs.declared.status.Status.TheVariants.{HeadLengths, Unsatisfiable}
use Rattle.esto_semantics.specs.Cores.{with_head}
use Rattle.esto_query.specs.Making.{query_of}
use Rattle.esto_query.specs.Schemas.{names_of}
use Rattle.esto_query.specs.declared.query.Query.{Query}
use Rattle.esto_reasoning.specs.Contains.{SaysTold, compares, have_one_length, prints_told, tells_contained}
use Rattle.esto_reasoning.specs.Minimise.{IsMinimalText, IsMinimisedTo, minimises, minimises_query, prints_minimal}
use Rattle.esto_reasoning.specs.Texts.{minimal_text, no_text}
use Rattle.esto_semantics.specs.Containment.{IsEquivalent}
use Rattle.esto_semantics.specs.Expansions.{IsOfQuery}
use Rattle.esto_semantics.specs.Instances.{IsUniversalFor}
use Rattle.esto_semantics.specs.Listed.{HasCandidate, IsEquivalentPart, IsSafe, candidate, chosen}
use Rattle.esto_semantics.specs.Maps.{IsFixedBy, IsFlat}
use Rattle.esto_term.specs.Sets.{AreListedBy}
use Rattle.esto_semantics.specs.declared.fact.Fact.{Fact}
use Rattle.esto_semantics.proofs.CandidateLemmas.{chosen-among}
use Rattle.esto_semantics.proofs.FactLemmas.{Mentions-among}
use Rattle.esto_semantics.proofs.PlaceLemmas.{chosen-from_Has}
use Rattle.esto_term.proofs.SetLemmas.{Has-within}
use Rattle.esto_semantics.specs.Queries.{ConjunctiveQuery, IsQuery, IsAnswer}
use Rattle.esto_semantics.specs.Rules.{Rule, AreRules}
use Rattle.esto_constraint.specs.Constraints.{rules_of}
use Rattle.esto_term.specs.declared.term.Term.{Term}
use Rattle.esto_term.proofs.ChoiceLemmas.{Decided, decided_as, decided_each}
use Rattle.esto_term.proofs.ListLemmas.{Contains-nil, thing_at}
use Rattle.esto_universal.proofs.PlannedLemmas.{head_stays}
use Rattle.esto_views.specs.Plans.{plan_query}
use Rattle.esto_input_laws.proofs.RuleLemmas.{fixed}
use Rattle.esto_top.specs.Ends.{Ends}
use Rattle.esto_top.specs.Ends.Ends.{goes, stops}
use Rattle.esto_top.specs.LawsBelow.{BelowLaws, ReasoningLaws}
use Rattle.esto_top.proofs.AnswerLemmas.{maps_decided}
use Rattle.esto_top.proofs.CourseLemmas.{ends_by, ends_judged, ends_refused, ends_then, judges_accepts, judges_goes}
use Rattle.esto_top.proofs.PlanLemmas.{renamed_exists}
use Rattle.esto_top.proofs.PlannedLemmas.{are_rules, chases}
use Rattle.esto_top.proofs.RewritingLemmas.{minimal_listed, some_decided}

pub demands_ends : {lack : Type 0} (condition : Type 0) (error : Status) → IsCaused ⊥ error → Decided condition → Ends lack (demands condition error)
unfolding demands
demands_ends condition error caused (inl holds) = goes [] tt (holds, refl)
demands_ends condition error caused (inr not) = stops [] error caused ((not, refl), refl)

-- ---- `contains`

module _ (laws : BelowLaws) (decide : FinishedRunsDecide) (catalogue : Catalogue) (left right : Query) where
  abbrev rules : List Rule
  rules = rules_of catalogue.rules

  own_rules : AreRules rules
  own_rules = are_rules laws.keeps laws.chase catalogue

  is_left : IsQuery (query_of left)
  is_left = (laws.keeps.queries left).query

  told_exists : (told : Contain) × TellsContained rules (query_of left) (query_of right) told
  told_exists = by ((chases laws.keeps laws.chase catalogue).ends (start_of (query_of left)) (laws.chase.starts (query_of left) is_left))
    where
      is_right : IsQuery (query_of right)
      is_right = (laws.keeps.queries right).query

      by : ((trace : List Step) × (end : ConjunctiveQuery) × IsRun rules (start_of (query_of left)) trace end × IsEnd rules end)
          → (told : Contain) × TellsContained rules (query_of left) (query_of right) told
      by (trace, end, run, inl finished) =
          let told = decide rules (query_of left) (query_of right) own_rules is_left trace end run finished in
          elim (maps_decided (query_of right) end is_right.flat_body is_right.flat_head) [
            | inl maps ↦ (Yes, told.1 maps)
            | inr apart ↦ (
              No end.body end.head,
              ((λ contained. apart (told.0 contained)), record { trace = trace; run = run; finished = finished }),
            )
          ]
      by (trace, end, run, inr (clash, clashed)) = (
        Yes,
        λ database meets row answer.
            let (m, keeps, sends, _) = answer in
            absurd (laws.chase.nothing rules (start_of (query_of left)) own_rules (laws.chase.starts (query_of left) is_left) trace end run clash clashed
            database meets m keeps (λ fact inside. sends fact ((laws.chase.body (query_of left) fact).0 inside))),
      )

  text_exists : (told : Contain) → TellsContained rules (query_of left) (query_of right) told
      → (text : List ℕ) × SaysTold (names_of catalogue.schema) left.names told text
  text_exists Yes tells = (codes "yes\n", refl)
  text_exists (No facts row) (apart, finishes) =
      let plan = renamed_exists left.names facts row
      (head_stays laws.chase.heads rules (query_of left) own_rules laws.chase.starts is_left finishes.trace (with_head row facts) finishes.run) in
      (no_text (names_of catalogue.schema) plan.0.names plan.0.head (plan_query plan.0).body, (plan.0, plan.1, refl))

  pub compares_ends : {lack : Type 0} → Ends lack (compares catalogue left right)
  compares_ends =
      ends_then (have_one_length left right) (λ _. and_then (tells_contained catalogue left right) (prints_told catalogue left))
      (demands_ends (length left.head ≡ length right.head) (HeadLengths (length left.head) (length right.head)) (record { cause = tt })
      (cases_eq (length left.head) (length right.head)))
      (λ _ _. ends_judged (TellsContained rules (query_of left) (query_of right)) (λ _. ⊥) (prints_told catalogue left) told_exists
      (λ told tells.
      let text = text_exists told tells in
      judges_accepts (SaysTold (names_of catalogue.schema) left.names told) (λ _. ⊥) text.0 text.1))

-- ---- `minimise`

module _ (laws : BelowLaws) (reasoning : ReasoningLaws) (catalogue : Catalogue) (query : Query) where
  abbrev its_rules : List Rule
  its_rules = rules_of catalogue.rules

  its_are_rules : AreRules its_rules
  its_are_rules = are_rules laws.keeps laws.chase catalogue

  is_its : IsQuery (query_of query)
  is_its = (laws.keeps.queries query).query

  -- whether a set of an instance's facts is equivalent to the query
  module _ (instance : ConjunctiveQuery) (universal : IsUniversalFor its_rules (query_of query) instance) (has_head : instance.head ≢ [])
      (flat : (term : Term) → IsOfQuery instance term → IsFlat term) where
    part_is_query : (set : List Bool) → HasCandidate instance set → IsSafe instance set → IsQuery (candidate instance set)
    part_is_query set has safe = record {
      has_head = has_head;
      has_body = λ none.
          let at = thing_at instance.body has.some.0 (omega (arith, Has-within set has.some.0 has.some.1, has.over)) in
          Contains-nil at.0 (subst (λ (atoms : List (Fact Term)). Contains atoms at.0) none
          (chosen-from_Has set instance.body has.some.0 at.0 has.some.1 at.1));
      flat_head = λ term inside. flat term (inr inside);
      flat_body = λ term inside. flat term (inl (Mentions-among (chosen set instance.body) instance.body term (chosen-among instance set) inside));
      safe = safe;
    }

    abbrev IsSame : List Bool → Type 0
    IsSame set = IsEquivalent its_rules (IsAnswer (candidate instance set)) (IsAnswer (query_of query))

    same_decided : (set : List Bool) → HasCandidate instance set → IsSafe instance set → Decided (IsSame set)
    same_decided set has safe = by ((chases laws.keeps laws.chase catalogue).ends (start_of (candidate instance set)) is_start)
      where
        is : IsQuery (candidate instance set)
        is = part_is_query set has safe

        is_start : IsStart (start_of (candidate instance set))
        is_start = laws.chase.starts (candidate instance set) is

        by : ((trace : List Step) × (end : ConjunctiveQuery) × IsRun its_rules (start_of (candidate instance set)) trace end × IsEnd its_rules end)
            → Decided (IsSame set)
        by (trace, end, run, inl finished) =
            let told = reasoning.part_is_equivalent its_rules (query_of query) instance end set its_are_rules universal
            (reasoning.universal its_rules (candidate instance set) its_are_rules is trace end run) finished in
            decided_as (told.1, told.0) (maps_decided (query_of query) end is_its.flat_body is_its.flat_head)
        by (trace, end, run, inr (clash, clashed)) = inl (
          (λ database meets row answer.
              let (m, keeps, sends, _) = answer in
              absurd (laws.chase.nothing its_rules (start_of (candidate instance set)) its_are_rules is_start trace end run clash clashed database meets m keeps
              (λ fact inside. sends fact ((laws.chase.body (candidate instance set) fact).0 inside)))),
          reasoning.part_contains its_rules (query_of query) instance set universal,
        )

    parts_exist : (sets : List (List Bool)) × AreListedBy (IsEquivalentPart its_rules (query_of query) instance) sets
    parts_exist =
        minimal_listed laws.lists.sets laws.lists.minimal (length instance.body) (IsEquivalentPart its_rules (query_of query) instance)
        (λ set part. part.has_candidate.over) (λ set over. elim (some_decided set) [
          | inr none ↦ inr (λ part. none part.has_candidate.some)
          | inl some ↦ elim (decided_each (IsFixedBy (chosen set instance.body)) (fixed (chosen set instance.body)) instance.head) [
            | inr unsafe ↦ inr (λ part. unsafe part.safe)
            | inl safe ↦ elim (same_decided set (record { over = over; some = some }) safe) [
              | inl same ↦ inl (record { has_candidate = record { over = over; some = some }; safe = safe; equivalent = same })
              | inr apart ↦ inr (λ part. apart part.equivalent)
            ]
          ]
        ])

  pub minimises_ends : {lack : Type 0} → Ends lack (minimises catalogue query)
  minimises_ends {lack} = by ((chases laws.keeps laws.chase catalogue).ends (start_of (query_of query)) (laws.chase.starts (query_of query) is_its))
    where
      Refuses : Status → Type 0
      Refuses refusal = (clash : Clash) × RunClashes its_rules (start_of (query_of query)) clash × (refusal ≡ Unsatisfiable clash)

      by : ((trace : List Step) × (end : ConjunctiveQuery) × IsRun its_rules (start_of (query_of query)) trace end × IsEnd its_rules end)
          → Ends lack (minimises catalogue query)
      by (trace, end, run, inl finished) =
          let plan = renamed_exists query.names end.body end.head
          (head_stays laws.chase.heads its_rules (query_of query) its_are_rules laws.chase.starts is_its trace end run) in
          let facts = (plan_query plan.0).body in
          let sound = laws.keeps.plans plan.0 in
          let sets = parts_exist (plan_query plan.0)
          (facts_universal plan.0 sound facts refl reasoning.compose reasoning.is_renamed reasoning.reached reasoning.back query.names its_rules
          (query_of query) end.body end.head plan.1 (reasoning.universal its_rules (query_of query) its_are_rules is_its trace end run)) sound.has_head
          (facts_flat plan.0 sound facts refl) in
          let minimal : Minimal = record {
            facts = facts;
            head = plan.0.head;
            names = plan.0.names;
            sets = record { count = length facts; sets = sets.0 };
          } in
          ends_by (minimises_query catalogue query) (prints_minimal catalogue query) minimal
          (judges_goes (IsMinimisedTo catalogue query) Refuses minimal (record {
            end = end;
            finishes = record { trace = trace; run = run; finished = finished };
            renamed = plan.1;
            count = refl;
            exact = sets.1.exact;
          }))
          (judges_accepts (IsMinimalText its_rules (names_of catalogue.schema) (query_of query) minimal) (λ _. ⊥)
          (minimal_text (names_of catalogue.schema) plan.0.names facts plan.0.head sets.0) (record { sets = sets.0; are_listed = sets.1; is = refl }))
      by (trace, end, run, inr (clash, clashed)) =
          ends_refused (IsMinimisedTo catalogue query) Refuses (prints_minimal catalogue query) (Unsatisfiable clash) (record { cause = tt })
          (clash, (trace, end, run, clashed), refl)
