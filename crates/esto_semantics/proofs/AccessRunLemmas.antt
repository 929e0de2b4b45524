-- Executable sets, accessible parts and stated orders, by the run that takes the accessible atom of least number each time.
use Rattle.std.proofs.Common.{◌≡◌, ℕ, zero, suc, ◌<◌, ◌≤◌, Bool, true, false, List, [], ◌∷◌, ◌++◌, length, get_or, slice_index_or, slice_set, replicate}
use Rattle.std.proofs.Common.{Option, Some, None, slice_get, refl, sym, ap, ◌∙◌, subst, arith, inl, inr}
use Rattle.std.specs.Prelude.{◌⊎◌, ◌↔◌, Contains}
use Rattle.std.proofs.lemmas.Bool.{false≢true}
use Rattle.std.proofs.lemmas.List.{get_or_default}
use Rattle.std.proofs.lemmas.List.Elements.{Contains-get_or}
use Rattle.std.proofs.lemmas.Option.{none-some, same_Some, slice_get_within}
use Rattle.esto_term.specs.declared.term.Term.{Term, out-Term, roll-Term, roll-out-Term}
use Rattle.esto_term.specs.declared.term.Term.TheOpen.{Term-F}
use Rattle.esto_term.specs.declared.term.Term.TheVariants.{outs-Const, rolls-Const}
use Rattle.esto_semantics.specs.declared.fact.Fact.{Fact}
use Rattle.esto_semantics.specs.Maps.{IsConstant}
use Rattle.esto_term.specs.Sets.{Has, Within, united}
use Rattle.esto_semantics.specs.Access.{Patterns, IsInput, IsBound, MeetsPattern, IsAccessible, IsEarlier, IsOrder, IsExecutable, IsAccessiblePart}
use Rattle.esto_semantics.specs.Access.{IsStatedOrder}
use Rattle.esto_semantics.specs.AccessSteps.{IsReady, IsNext, IsStuck}
use Rattle.esto_semantics.specs.AccessLaws.{UnionIsExecutable, PartExists, StatedOrderExists}
use Rattle.esto_term.proofs.SetLemmas.{decided_has, within_refl, within_same, has_united, length-united, missing, missing-set, has_set, none_has}
use Rattle.esto_term.proofs.ChoiceLemmas.{Decided, decided_as, decided_below, decided_both, decided_either, decided_not, least_below}
use Rattle.esto_term.proofs.DistinctLemmas.{decided_contains}
use Rattle.esto_semantics.proofs.TermLemmas.{decided_term}
use Rattle.esto_term.proofs.ListLemmas.{at_pushed, thing_at}
use Rattle.esto_semantics.proofs.AccessLemmas.{earlier_contains, contains_earlier, earlier_push, push_earlier}
use Rattle.esto_semantics.proofs.AccessLemmas.{accessible_more, order_grows, none_is_order, stuck_has}

-- ---- the run, where all that is asked is decided

decided_constant : (term : Term) → Decided (IsConstant term)
decided_constant term = go (out-Term term) refl
  where
    go : (level : Term-F Term) → out-Term term ≡ level → Decided (IsConstant term)
    go (Term-F.Const text) e = inl (text, sym (roll-out-Term term) ∙ ap roll-Term e ∙ rolls-Const text)
    go (Term-F.Plain number) e = inr (λ h. plain number h.0 (sym e ∙ ap out-Term h.1 ∙ outs-Const h.0))
      where
        plain : (number : ℕ) (text : List ℕ) → ◌≡◌ {A = Term-F Term} (Term-F.Plain number) (Term-F.Const text) → ⊥
        plain number text e = cc
    go (Term-F.Made rule variable frontier) e = inr (λ h. made rule variable frontier h.0 (sym e ∙ ap out-Term h.1 ∙ outs-Const h.0))
      where
        made : (rule variable : ℕ) (frontier : List Term) (text : List ℕ) → ◌≡◌ {A = Term-F Term} (Term-F.Made rule variable frontier) (Term-F.Const text) → ⊥
        made rule variable frontier text e = cc

decided_input : (pattern : List Bool) (column : ℕ) → Decided (IsInput pattern column)
decided_input pattern column = go (slice_get pattern column) refl
  where
    go : (found : Option Bool) → slice_get pattern column ≡ found → Decided (IsInput pattern column)
    go None e = inr (λ input. none-some true (sym e ∙ input))
    go (Some true) e = inl e
    go (Some false) e = inr (λ input. false≢true (same_Some false true (sym e ∙ input)))

module _ (patterns : Patterns) (atoms : List (Fact Term)) where
  decided_bound : (part : List Bool) (term : Term) → Decided (IsBound atoms (Has part) term)
  decided_bound part term = decided_either (decided_constant term) (decided_as same (decided_below Gives (length atoms) gives))
    where
      Gives : ℕ → Type 0
      Gives number = Has part number × ((atom : Fact Term) × (slice_get atoms number ≡ Some atom) × Contains atom.terms term)

      gives : (number : ℕ) → number < length atoms → Decided (Gives number)
      gives number l =
          let found = thing_at atoms number l in
          decided_both (decided_has part number) (decided_as (
            λ h. (found.0, found.1, h),
            λ h. let e : h.0 ≡ found.0 = same_Some h.0 found.0 (sym h.1 ∙ found.1) in
                subst (λ atom. Contains atom.terms term) e h.2,
          )
          (decided_contains decided_term (found.0).terms term))

      same : ((number : ℕ) × (number < length atoms) × Gives number)
          ↔ ((number : ℕ) × Has part number × ((atom : Fact Term) × (slice_get atoms number ≡ Some atom) × Contains atom.terms term))
      same = (λ h. (h.0, h.2.0, h.2.1), λ h. (h.0, slice_get_within atoms h.0 h.2.0 h.2.1, (h.1, h.2)))

  decided_meets : (part : List Bool) (atom : Fact Term) (pattern : List Bool) → Decided (MeetsPattern atoms (Has part) atom pattern)
  decided_meets part atom pattern = go (decided_below Waits (length atom.terms) waits)
    where
      Waits : ℕ → Type 0
      Waits column = IsInput pattern column × ((term : Term) × (slice_get atom.terms column ≡ Some term) × (IsBound atoms (Has part) term → ⊥))

      waits : (column : ℕ) → column < length atom.terms → Decided (Waits column)
      waits column l =
          let found = thing_at atom.terms column l in
          decided_both (decided_input pattern column) (decided_as (
            λ h. (found.0, found.1, h),
            λ h. let e : h.0 ≡ found.0 = same_Some h.0 found.0 (sym h.1 ∙ found.1) in
                subst (λ term. IsBound atoms (Has part) term → ⊥) e h.2,
          )
          (decided_not (decided_bound part found.0)))

      go : Decided ((column : ℕ) × (column < length atom.terms) × Waits column) → Decided (MeetsPattern atoms (Has part) atom pattern)
      go (inl found) = inr (λ meets. found.2.1.2 (meets found.0 found.2.1.0 found.2.0 found.2.1.1))
      go (inr none) = inl (λ column term input at. elim (decided_bound part term) [
        | inl bound ↦ bound
        | inr unbound ↦ absurd (none (column, slice_get_within atom.terms column term at, (input, (term, at, unbound))))
      ])

  decided_accessible : (part : List Bool) (atom : Fact Term) → Decided (IsAccessible patterns atoms (Has part) atom)
  decided_accessible part atom = decided_as (
    λ h. (get_or own h.0 [], Contains-get_or own h.0 [] h.1, h.2),
    λ h. (h.1.0, h.1.1, subst (MeetsPattern atoms (Has part) atom) (sym (get_or_default own h.1.0 [] h.0 h.1.1 ∙ h.1.2)) h.2),
  )
      (decided_below (λ place. MeetsPattern atoms (Has part) atom (get_or own place [])) (length own)
      (λ place l. decided_meets part atom (get_or own place [])))
    where
      own : List (List Bool)
      own = slice_index_or patterns atom.relation []

  decided_ready : (part : List Bool) (number : ℕ) → number < length atoms → Decided (IsReady patterns atoms (Has part) number)
  decided_ready part number l =
      let found = thing_at atoms number l in
      decided_as
      (λ h atom e. subst (IsAccessible patterns atoms (Has part)) (same_Some found.0 atom (sym found.1 ∙ e)) h, λ ready. ready found.0 found.1)
      (decided_accessible part found.0)

  decided_next : (set part : List Bool) (number : ℕ) → number < length atoms → Decided (IsNext patterns atoms set part number)
  decided_next set part number l =
      decided_as {P = Has set number × ((Has part number → ⊥) × IsReady patterns atoms (Has part) number)}
      (λ h. record { there = l; chosen = h.0; absent = h.1.0; ready = h.1.1 }, λ next. (next.chosen, (next.absent, next.ready)))
      (decided_both (decided_has set number) (decided_both (decided_not (decided_has part number)) (decided_ready part number l)))

  -- a part of the set with an order of it that took the accessible atom of least number each time
  record IsRun (set part : List Bool) (order : List ℕ) : Type 0 where
    within : Within part set
    is_order : IsOrder patterns atoms part order
    least : (place number : ℕ) → slice_get order place ≡ Some number
        → (lesser : ℕ) (atom : Fact Term) → lesser < number → Has set lesser → slice_get atoms lesser ≡ Some atom
        → IsAccessible patterns atoms (IsEarlier order place) atom → IsEarlier order place lesser

  run_grows : (set part : List Bool) (order : List ℕ) (number : ℕ) → IsRun set part order → IsNext patterns atoms set part number
      → ((lesser : ℕ) → lesser < number → IsNext patterns atoms set part lesser → ⊥) → IsRun set (slice_set part number true) (order ++ number ∷ [])
  run_grows set part order number run next first = record {
    within = λ other h. elim ((has_set part number inside other).0 h) [ inl e ↦ subst (Has set) e next.chosen | inr there ↦ run.within other there ];
    is_order = order_grows patterns atoms part order number run.is_order next.there next.absent next.ready;
    least = λ place at e lesser atom below has there accessible. elim (at_pushed order number place at e) [
      | inl old ↦ earlier_push order number place lesser (run.least place at old lesser atom below has there
          (accessible_more patterns atoms _ _
          (λ other h. push_earlier order number place other (omega (arith, slice_get_within order place at old)) h) atom accessible))
      | inr last ↦ earlier_push order number place lesser
          (subst (λ p. IsEarlier order p lesser) (sym last.0) (contains_earlier order lesser ((run.is_order.names lesser).1
          (elim (decided_has part lesser) [
            | inl chosen ↦ chosen
            | inr absent ↦ absurd (first lesser (subst (λ n. lesser < n) (sym last.1) below) (record {
              there = slice_get_within atoms lesser atom there;
              chosen = has;
              absent = absent;
              ready = λ other d.
                  subst (IsAccessible patterns atoms (Has part)) (same_Some atom other (sym there ∙ d))
                  (accessible_more patterns atoms _ _
                  (λ earlier h. (run.is_order.names earlier).0
                  (earlier_contains order place earlier (push_earlier order number place earlier (omega (arith, last.0)) h))) atom accessible);
            }))
          ]))))
    ];
  }
    where
      inside : number < length part
      inside = omega (arith, next.there, run.is_order.over)

  abbrev Finished : List Bool → Type 0
  Finished set = (part : List Bool) × (order : List ℕ) × IsRun set part order × IsStuck patterns atoms set part

  -- the run goes on until nothing is left that is accessible
  run_ends : (steps : ℕ) (set part : List Bool) (order : List ℕ) → missing part ≤ steps → IsRun set part order → Finished set
  run_ends zero set part order l run = (
    part,
    order,
    run,
    λ number m has ready. elim (decided_has part number) [
      | inl there ↦ there
      | inr absent ↦ absurd (omega (arith, l, missing-set part number (omega (arith, m, run.is_order.over)) absent))
    ],
  )
  run_ends (suc steps) set part order l run = go (least_below (IsNext patterns atoms set part) (length atoms) (decided_next set part))
      (λ number next first. run_ends steps set (slice_set part number true) (order ++ number ∷ [])
      (omega (arith, l, missing-set part number (omega (arith, next.there, run.is_order.over)) next.absent)) (run_grows set part order number run next first))
    where
      go : ((number : ℕ) × (number < length atoms) × IsNext patterns atoms set part number
          × ((lesser : ℕ) → lesser < number → IsNext patterns atoms set part lesser → ⊥))
          ⊎ ((number : ℕ) → number < length atoms → IsNext patterns atoms set part number → ⊥)
          → ((number : ℕ) → IsNext patterns atoms set part number → ((lesser : ℕ) → lesser < number → IsNext patterns atoms set part lesser → ⊥)
          → Finished set) → Finished set
      go (inl found) on = on found.0 found.2 found.3
      go (inr none) on = (
        part,
        order,
        run,
        λ number m has ready. elim (decided_has part number) [
          | inl there ↦ there
          | inr absent ↦ absurd (none number m (record { there = m; chosen = has; absent = absent; ready = ready }))
        ],
      )

  run_starts : (set : List Bool) → IsRun set (replicate (length atoms) false) []
  run_starts set = record {
    within = λ number h. absurd (none_has (length atoms) number h);
    is_order = none_is_order patterns atoms;
    least = λ place number e. absurd (none-some number e);
  }

  finished : (set : List Bool) → Finished set
  finished set = run_ends (missing (replicate (length atoms) false)) set (replicate (length atoms) false) [] (omega arith) (run_starts set)

  part_of : (set : List Bool) → (part : List Bool) × IsAccessiblePart patterns atoms set part
  part_of set =
      let all = finished set in (
        all.0,
        record {
          within = (all.2).within;
          executable = (all.1, (all.2).is_order);
          greatest = λ other executable within. stuck_has patterns atoms set all.0 other all.3 executable within;
        },
      )

  -- the run of an executable set takes all of it
  all_taken : (set : List Bool) → IsExecutable patterns atoms set → (all : Finished set) → all.0 ≡ set
  all_taken set executable all =
      within_same all.0 set ((all.2).is_order.over ∙ sym (executable.1).over) (all.2).within
      (stuck_has patterns atoms set all.0 set all.3 executable (within_refl set))

  stated_order_of : (set : List Bool) → IsExecutable patterns atoms set → (order : List ℕ) × IsStatedOrder patterns atoms set order
  stated_order_of set executable =
      let all = finished set in
      (all.1, record { is_order = subst (λ part. IsOrder patterns atoms part all.1) (all_taken set executable all) (all.2).is_order; least = (all.2).least })

  united_executable : (set other : List Bool) → IsExecutable patterns atoms set → IsExecutable patterns atoms other
      → IsExecutable patterns atoms (united set other)
  united_executable set other executable executable' =
      let found = part_of (united set other) in
      let part : List Bool = found.0 in
      let order = (found.1).executable in
      let l : length (united set other) ≡ length atoms = length-united set other ((executable.1).over ∙ sym (executable'.1).over) ∙ (executable.1).over in
      let left : Within set part = (found.1).greatest set executable (λ number h. (has_united set other number).1 (inl h)) in
      let right : Within other part = (found.1).greatest other executable' (λ number h. (has_united set other number).1 (inr h)) in
      let all : Within (united set other) part =
      λ number h. elim ((has_united set other number).0 h) [ inl there ↦ left number there | inr there ↦ right number there ] in
      subst (IsExecutable patterns atoms) (within_same part (united set other) ((order.1).over ∙ sym l) (found.1).within all) order

pub part_exists : PartExists
part_exists patterns atoms set = part_of patterns atoms set

pub union_is_executable : UnionIsExecutable
union_is_executable patterns atoms set other = united_executable patterns atoms set other

pub stated_order_exists : StatedOrderExists
stated_order_exists patterns atoms set = stated_order_of patterns atoms set
