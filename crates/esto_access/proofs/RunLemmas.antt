-- Runs that take the accessible atom of least number each time, and what they show of the set.
use Rattle.std.proofs.Common.{◌≡◌, ◌↔◌, ℕ, zero, suc, ◌+◌, ◌-◌, ◌<◌, ◌≤◌, Bool, true, false, List, [], ◌∷◌, ◌++◌, length, get_or, take, slice_set, replicate}
use Rattle.std.proofs.Common.{Some, slice_get, IsTrue, Contains, All, refl, sym, ap, ◌∙◌, subst, arith, inl, inr, length-append}
use Rattle.std.proofs.lemmas.List.Elements.{Contains-get_or}
use Rattle.std.proofs.lemmas.Option.{none-some, same_Some, slice_get_within, slice_get-get_or}
use Rattle.esto_term.specs.declared.term.Term.{Term}
use Rattle.esto_semantics.specs.declared.fact.Fact.{Fact}
use Rattle.esto_term.specs.Sets.{Has}
use Rattle.esto_semantics.specs.Access.{Patterns, IsAccessible, IsEarlier, IsOrder, IsExecutable, IsAccessiblePart, IsStatedOrder}
use Rattle.esto_semantics.specs.AccessSteps.{IsStuck}
use Rattle.esto_semantics.proofs.AccessLemmas.{earlier_contains, earlier_push, push_earlier, accessible_more, ready_more, order_grows, none_is_order, stuck_has}
use Rattle.esto_term.proofs.SetLemmas.{decided_has, within_refl, within_same, missing, missing-set, has_set, none_has, Has-within}
use Rattle.esto_access.specs.Runs.{CanFollow, NoneFollows, IsFirstFollower, IsRun}
use Rattle.esto_term.proofs.ListLemmas.{Contains-at, at_pushed, place-from_Contains}
use Rattle.esto_term.proofs.PlaceLemmas.{Contains-take, Contains-take_from, one_place}

-- ---- earlier places

pub earlier_take : (order : List ℕ) (place number : ℕ) → IsEarlier order place number → Contains (take place order) number
earlier_take order place number h = Contains-take order place h.0 number h.1 h.2

pub anywhere_earlier : (order : List ℕ) (place number : ℕ) → length order ≤ place → Contains order number → IsEarlier order place number
anywhere_earlier order place number l h = let at = place-from_Contains order number h in let within = slice_get_within order at.0 number
    at.1 in (at.0, omega (arith, l, within), at.1)

-- ---- the run

missing_all : (count : ℕ) → missing (replicate count false) ≡ count
missing_all zero = refl
missing_all (suc count) = ap suc (missing_all count)

module _ (patterns : Patterns) (atoms : List (Fact Term)) (set : List Bool) where
  -- a run so far: what it hasn't taken yet is what is left of the atoms
  abbrev pub RunsSoFar : List ℕ → Type 0
  RunsSoFar order = (part : List Bool) × IsRun patterns atoms set part order × (length order + missing part ≡ length atoms)

  pub run_starts : RunsSoFar []
  run_starts = (
    replicate (length atoms) false,
    record {
      within = λ number h. absurd (none_has (length atoms) number h);
      is_order = none_is_order patterns atoms;
      least = λ place number e. absurd (none-some number e);
    },
    (let all = missing_all (length atoms) in omega (arith, all)),
  )

  module _ (order : List ℕ) (part : List Bool) (run : IsRun patterns atoms set part order) where
    named : (number : ℕ) → Contains order number ↔ Has part number
    named = (run.is_order).names

    module _ (number : ℕ) (first : IsFirstFollower patterns atoms set order number) where
      absent : Has part number → ⊥
      absent h = (first.follows).absent ((named number).1 h)

      inside : number < length part
      inside = omega (arith, (first.follows).there, (run.is_order).over)

      grown : IsRun patterns atoms set (slice_set part number true) (order ++ number ∷ [])
      grown = record {
        within = λ other h. elim ((has_set part number inside other).0 h)
            [ inl e ↦ subst (Has set) e (first.follows).chosen | inr there ↦ run.within other there ];
        is_order = order_grows patterns atoms part order number run.is_order (first.follows).there absent
            (ready_more patterns atoms (Contains order) (Has part) (λ other h. (named other).0 h) number (first.follows).ready);
        least = λ place at e lesser atom below has there accessible. elim (at_pushed order number place at e) [
          | inl old ↦ earlier_push order number place lesser (run.least place at old lesser atom below has there
              (accessible_more patterns atoms _ _ (λ other h. push_earlier order number place other (omega (arith, slice_get_within order place at old)) h)
              atom accessible))
          | inr last ↦ earlier_push order number place lesser (anywhere_earlier order place lesser (omega (arith, last.0)) (elim (decided_has part lesser) [
            | inl chosen ↦ (named lesser).1 chosen
            | inr left ↦ absurd (first.least lesser (subst (λ n. lesser < n) (sym last.1) below) (record {
              there = slice_get_within atoms lesser atom there;
              chosen = has;
              absent = λ h. left ((named lesser).0 h);
              ready = λ other d. subst (IsAccessible patterns atoms (Contains order)) (same_Some atom other (sym there ∙ d))
                  (accessible_more patterns atoms _ _
                  (λ earlier h. earlier_contains order place earlier (push_earlier order number place earlier (omega (arith, last.0)) h)) atom
                  accessible);
            }))
          ]))
        ];
      }

    stuck : NoneFollows patterns atoms set order → IsStuck patterns atoms set part
    stuck none number l has ready = elim (decided_has part number) [
      | inl there ↦ there
      | inr absent ↦ absurd (none number (record {
        there = l;
        chosen = has;
        absent = λ h. absent ((named number).0 h);
        ready = ready_more patterns atoms (Has part) (Contains order) (λ other h. (named other).1 h) number ready;
      }))
    ]

  -- a turn of the run, where the order is read as a given list
  module _ (order new given : List ℕ) (same : given ≡ order) (number : ℕ) (first : IsFirstFollower patterns atoms set given number)
      (e : new ≡ order ++ number ∷ []) (run : RunsSoFar order) where
    first_here : IsFirstFollower patterns atoms set order number
    first_here = subst (λ it. IsFirstFollower patterns atoms set it number) same first

    fewer : suc (missing (slice_set run.0 number true)) ≡ missing run.0
    fewer = missing-set run.0 number (inside order run.0 run.1 number first_here) (absent order run.0 run.1 number first_here)

    longer : length (order ++ number ∷ []) ≡ length order + 1
    longer = length-append order (number ∷ [])

    pub run_grows : RunsSoFar new
    run_grows = subst RunsSoFar (sym e) (slice_set run.0 number true, grown order run.0 run.1 number first_here, omega (arith, run.2, fewer, longer))

    pub room_shrinks : length atoms - length new < length atoms - length order
    room_shrinks = let same_length = ap length e in omega (arith, run.2, fewer, longer, same_length)

  -- ---- what the end of a run shows, where its order is read as a given list

  module _ (order given : List ℕ) (same_list : given ≡ order) (none : NoneFollows patterns atoms set order)
      (run : (part : List Bool) × IsRun patterns atoms set part order) where
    in_part : (number : ℕ) → Contains given number ↔ Has run.0 number
    in_part number = subst (λ it. Contains it number ↔ Has run.0 number) (sym same_list) (((run.1).is_order).names number)

    pub numbers_below : (count : ℕ) → count ≡ length atoms → All (λ number. number < count) given
    numbers_below count e i d l =
        let has = (in_part (get_or given i d)).0 (Contains-get_or given i d l) in
        subst (λ n. get_or given i d < n) (((run.1).is_order).over ∙ sym e) (Has-within run.0 (get_or given i d) has)

    pub part_of_run : (reached : List Bool) → length reached ≡ length atoms → ((number : ℕ) → Has reached number ↔ Contains given number)
        → IsAccessiblePart patterns atoms set reached
    part_of_run reached over has = subst (IsAccessiblePart patterns atoms set) same (record {
      within = (run.1).within;
      executable = (order, (run.1).is_order);
      greatest = λ other executable within. stuck_has patterns atoms set run.0 other (stuck order run.0 run.1 none) executable within;
    })
      where
        same : run.0 ≡ reached
        same = within_same run.0 reached (((run.1).is_order).over ∙ sym over)
            (λ number h. (has number).1 ((in_part number).1 h)) (λ number h. (in_part number).0 ((has number).0 h))

    pub order_of_run : length set ≡ length atoms → ((number : ℕ) → Has set number → Contains given number) → IsStatedOrder patterns atoms set order
    order_of_run over all = record {
      is_order = subst (λ it. IsOrder patterns atoms it order) same (run.1).is_order;
      least = (run.1).least;
    }
      where
        same : run.0 ≡ set
        same = within_same run.0 set (((run.1).is_order).over ∙ sym over) (run.1).within (λ number h. (in_part number).0 (all number h))

    pub executable_is_named : IsExecutable patterns atoms set → (number : ℕ) → Has set number → Contains given number
    executable_is_named executable number h =
        (in_part number).1 (stuck_has patterns atoms set run.0 set (stuck order run.0 run.1 none) executable (within_refl set) number h)

  -- ---- orders, place by place

  abbrev pub EachFollows : List ℕ → Type 0
  EachFollows order = (place number : ℕ) → slice_get order place ≡ Some number → CanFollow patterns atoms set (take place order) number

  pub order_from_places : (order : List ℕ) → length set ≡ length atoms → ((number : ℕ) → Has set number → Contains order number) → EachFollows order
      → IsOrder patterns atoms set order
  order_from_places order over all each = record {
    over = over;
    names = λ number. (λ h. let at = place-from_Contains order number h in (each at.0 number at.1).chosen, all number);
    once = λ i j d less within e. (each j (get_or order j d) (slice_get-get_or order j d within)).absent
        (earlier_take order j (get_or order j d) (i, less, slice_get-get_or order i d (omega (arith, less, within)) ∙ ap Some e));
    accessible = λ place number atom at at_atom. accessible_more patterns atoms (Contains (take place order)) (IsEarlier order place)
        (Contains-take_from order place) atom ((each place number at).ready atom at_atom);
  }

  pub places_from_order : (order : List ℕ) → IsOrder patterns atoms set order → EachFollows order
  places_from_order order is_order place number at = record {
    there = subst (λ n. number < n) is_order.over (Has-within set number chosen);
    chosen = chosen;
    absent = λ h. let before = Contains-take_from order place number h in let same = one_place order is_order.once before.0 place number before.2 at in omega
        (arith, same, before.1);
    ready = λ atom at_atom. accessible_more patterns atoms (IsEarlier order place) (Contains (take place order)) (earlier_take order place) atom
        (is_order.accessible place number atom at at_atom);
  }
    where
      chosen : Has set number
      chosen = (is_order.names number).0 (Contains-at order place number at)

  pub order_by_places : (order given again : List ℕ) → given ≡ order → again ≡ order → length set ≡ length atoms
      → ((number : ℕ) → Has set number → Contains given number)
      → (answer : Bool) → IsTrue answer ↔ EachFollows again → IsTrue answer ↔ IsOrder patterns atoms set order
  order_by_places order given again same same_again over all answer told = (
    λ yes. order_from_places order over (λ number h. subst (λ it. Contains it number) same (all number h)) (subst EachFollows same_again (told.0 yes)),
    λ is_order. told.1 (subst EachFollows (sym same_again) (places_from_order order is_order)),
  )
