-- Runs of one start: one end, and as many steps.
use Rattle.std.proofs.Common.{◌≡◌, ◌⊎◌, inl, inr, ℕ, zero, suc, ◌+◌, ◌-◌, ◌<◌, ◌≤◌, List, [], ◌∷◌, ◌++◌, map, length, refl, sym, ap, ◌∙◌, subst, arith}
use Rattle.std.proofs.Common.{length-append}
use Rattle.std.proofs.lemmas.Bool.{cases_order}
use Rattle.esto_semantics.specs.Queries.{ConjunctiveQuery}
use Rattle.esto_semantics.specs.Rules.{Rule, AreRules}
use Rattle.esto_chase_laws.specs.Runs.{Step, IsStep, IsRun, begun, went, IsEnd, move_of, moves_of, merge_of, merges_of}
use Rattle.esto_chase_laws.proofs.NextLemmas.{Stops, one_step, same_move, same_merge}

map_push : {A : Type 0} (of : Step → A) (trace : List Step) (step : Step) → map of (trace ++ step ∷ []) ≡ map of trace ++ of step ∷ []
map_push of [] step = refl
map_push of (first ∷ trace) step = ap (λ things. of first ∷ things) (map_push of trace step)

-- what two steps from one state have alike
abbrev IsAlike : {A : Type 0} → List Rule → (Step → A) → Type 0
IsAlike rules of =
    (now : ConjunctiveQuery) (s t : Step) (one two : ConjunctiveQuery) → IsStep rules now s one → IsStep rules now t two → of s ≡ of t

module _ (rules : List Rule) (are_rules : AreRules rules) (start : ConjunctiveQuery) where
  -- the last step of a run, and the run before it
  pub record Last (trace : List Step) (end : ConjunctiveQuery) : Type 0 where
    pub before : List Step
    pub now : ConjunctiveQuery
    pub step : Step
    pub run : IsRun rules start before now
    pub is_step : IsStep rules now step end
    pub whole : trace ≡ before ++ step ∷ []

  last : (trace : List Step) (end : ConjunctiveQuery) (count : ℕ) → IsRun rules start trace end → length trace ≡ suc count → Last trace end
  last trace end count begun long = absurd (omega arith)
  last trace end count (went before now step next run is_step) long =
      record { before = before; now = now; step = step; run = run; is_step = is_step; whole = refl }

  none_yet : (trace : List Step) (end : ConjunctiveQuery) → IsRun rules start trace end → length trace ≡ 0 → start ≡ end
  none_yet trace end begun none = refl
  none_yet trace end (went before now step next run is_step) none = absurd (omega (arith, length-append before (step ∷ [])))

  shorter : (count : ℕ) (trace before : List Step) (step : Step) → trace ≡ before ++ step ∷ [] → length trace ≡ suc count → length before ≡ count
  shorter count trace before step whole long = omega (arith, ap length whole, length-append before (step ∷ []))

  pub one_state : (count : ℕ) (trace other : List Step) (one two : ConjunctiveQuery) → IsRun rules start trace one → IsRun rules start other two
      → length trace ≡ count → length other ≡ count → one ≡ two
  one_state zero trace other one two a b long as_long = sym (none_yet trace one a long) ∙ none_yet other two b as_long
  one_state (suc count) trace other one two a b long as_long =
      let x = last trace one count a long in
      let y = last other two count b as_long in
      let x_long = shorter count trace x.before x.step x.whole long in
      let y_long = shorter count other y.before y.step y.whole as_long in
      let before : x.now ≡ y.now = one_state count x.before y.before x.now y.now x.run y.run x_long y_long in
      one_step rules are_rules y.now x.step y.step one two (subst (λ it. IsStep rules it x.step one) before x.is_step) y.is_step

  one_course : {A : Type 0} (of : Step → A) → IsAlike rules of
      → (count : ℕ) (trace other : List Step) (one two : ConjunctiveQuery) → IsRun rules start trace one → IsRun rules start other two
      → length trace ≡ count → length other ≡ count → map of trace ≡ map of other
  one_course of alike zero [] [] one two a b long as_long = refl
  one_course of alike zero [] (step ∷ other) one two a b long as_long = absurd (omega arith)
  one_course of alike zero (step ∷ trace) other one two a b long as_long = absurd (omega arith)
  one_course of alike (suc count) trace other one two a b long as_long =
      let x = last trace one count a long in
      let y = last other two count b as_long in
      let x_long = shorter count trace x.before x.step x.whole long in
      let y_long = shorter count other y.before y.step y.whole as_long in
      let earlier : map of x.before ≡ map of y.before = one_course of alike count x.before y.before x.now y.now x.run y.run x_long y_long in
      let before : x.now ≡ y.now = one_state count x.before y.before x.now y.now x.run y.run x_long y_long in
      let same : of x.step ≡ of y.step = alike y.now x.step y.step one two (subst (λ it. IsStep rules it x.step one) before x.is_step) y.is_step in
      ap (map of) x.whole ∙ map_push of x.before x.step ∙ (λ k. earlier k ++ same k ∷ []) ∙ sym (map_push of y.before y.step) ∙ ap (map of) (sym y.whole)

  -- a run that has stopped is as long as any other
  longest : (more : ℕ) (trace other : List Step) (one two : ConjunctiveQuery) → IsRun rules start trace one → IsRun rules start other two
      → Stops rules one → length other ≡ length trace + suc more → ⊥
  longest zero trace other one two a b stops longer =
      let y = last other two (length trace) b (omega arith) in
      let before : one ≡ y.now =
      one_state (length trace) trace y.before one y.now a y.run refl (shorter (length trace) other y.before y.step y.whole (omega arith)) in
      stops y.step two (subst (λ it. IsStep rules it y.step two) (sym before) y.is_step)
  longest (suc more) trace other one two a b stops longer =
      let y = last other two (length trace + suc more) b (omega arith) in
      longest more trace y.before one y.now a y.run stops (shorter (length trace + suc more) other y.before y.step y.whole (omega arith))

  gap : (m n : ℕ) → m < n → n ≡ m + suc (n - suc m)
  gap m n less = omega arith

  one_length : (trace other : List Step) (one two : ConjunctiveQuery) → IsRun rules start trace one → IsRun rules start other two
      → Stops rules one → Stops rules two → length trace ≡ length other
  one_length trace other one two a b stops stops' = elim (cases_order (length trace) (length other)) [
    | inl same ↦ same
    | inr apart ↦ elim apart [
      | inl less ↦ absurd (longest (length other - suc (length trace)) trace other one two a b stops (gap (length trace) (length other) less))
      | inr less ↦ absurd (longest (length trace - suc (length other)) other trace two one b a stops' (gap (length other) (length trace) less))
    ]
  ]

  pub one_end : (trace other : List Step) (one two : ConjunctiveQuery) → IsRun rules start trace one → IsRun rules start other two
      → Stops rules one → Stops rules two → one ≡ two
  one_end trace other one two a b stops stops' =
      one_state (length trace) trace other one two a b refl (sym (one_length trace other one two a b stops stops'))

  same_course : {A : Type 0} (of : Step → A) → IsAlike rules of
      → (trace other : List Step) (one two : ConjunctiveQuery) → IsRun rules start trace one → IsRun rules start other two
      → Stops rules one → Stops rules two → map of trace ≡ map of other
  same_course of alike trace other one two a b stops stops' =
      one_course of alike (length trace) trace other one two a b refl (sym (one_length trace other one two a b stops stops'))

  pub same_moves : (trace other : List Step) (one two : ConjunctiveQuery) → IsRun rules start trace one → IsRun rules start other two
      → Stops rules one → Stops rules two → moves_of trace ≡ moves_of other
  same_moves = same_course move_of (same_move rules)

  pub same_merges : (trace other : List Step) (one two : ConjunctiveQuery) → IsRun rules start trace one → IsRun rules start other two
      → Stops rules one → Stops rules two → merges_of trace ≡ merges_of other
  same_merges = same_course merge_of (same_merge rules are_rules)

  -- ---- a run that goes on comes to an end, where no run is longer than a bound

  abbrev pub GoesOn : ConjunctiveQuery → Type 0
  GoesOn now = IsEnd rules now ⊎ ((step : Step) × (next : ConjunctiveQuery) × IsStep rules now step next)

  abbrev pub HasEnd : Type 0
  HasEnd = (trace : List Step) × (end : ConjunctiveQuery) × IsRun rules start trace end × IsEnd rules end

  module _ (bound : ℕ) (bounded : (trace : List Step) (now : ConjunctiveQuery) → IsRun rules start trace now → length trace ≤ bound)
      (goes_on : (trace : List Step) (now : ConjunctiveQuery) → IsRun rules start trace now → GoesOn now) where
    pub reach : (left : ℕ) (trace : List Step) (now : ConjunctiveQuery) → IsRun rules start trace now → bound < length trace + left → HasEnd
    reach zero trace now run far = absurd (omega (arith, bounded trace now run, far))
    reach (suc left) trace now run far = elim (goes_on trace now run) [
      | inl end ↦ (trace, now, run, end)
      | inr next ↦
          reach left (trace ++ next.0 ∷ []) next.1 (went trace now next.0 next.1 run next.2)
          (omega (arith, far, length-append trace (next.0 ∷ [])))
    ]
