-- Things each once: one thing more.
use Rattle.std.proofs.Common.{◌≡◌, ◌⊎◌, ◌↔◌, inl, inr, ℕ, zero, suc, Bool, true, false, ◌<◌, ◌≤◌, ◌+◌, List, [], ◌∷◌, ◌++◌, take, length, map}
use Rattle.std.proofs.Common.{get_or, Contains, AllPairs, Some, slice_get, refl, sym, ap, ◌∙◌, subst, arith}
use Rattle.std.proofs.lemmas.Bool.{cases_lt}
use Rattle.std.proofs.lemmas.List.{append_assoc, append-nil, take_all}
use Rattle.std.proofs.lemmas.List.Elements.{Contains-append_cases, Contains-append_left, Contains-append_right, Contains-push_cases}
use Rattle.esto_term.proofs.ChoiceLemmas.{Decided, pairs_append}
use Rattle.esto_term.proofs.DecisionLemmas.{same_bytes, same_list, contains}
use Rattle.std.proofs.lemmas.Option.{get_or_from_slice_get, same_Some, slice_get_within}
use Rattle.esto_term.proofs.ListLemmas.{Contains-at, Contains-head, Contains-map, Contains-map_from, Contains-one}
use Rattle.esto_term.proofs.ListLemmas.{at_left, at_right, map_at, map_at-from, place-from_Contains}
use Rattle.esto_term.proofs.PlaceLemmas.{take-item}
use Rattle.esto_relmodel.specs.Once.{StandsBefore, KeepAll, AreEachOnce, IsAdded}

module _ {X : Type 0} where
  pub start : AreEachOnce {X = X} [] []
  start = record { same = λ thing. ((λ inside. inside), λ inside. inside); in_order = λ i j d l m. absurd (omega arith) }

  -- what stands at a place of two lists stands at it in the first, or so many places further in the second
  at_either : (things more : List X) (place : ℕ) (thing : X) → slice_get (things ++ more) place ≡ Some thing
      → (slice_get things place ≡ Some thing) ⊎ ((further : ℕ) × (place ≡ length things + further) × (slice_get more further ≡ Some thing))
  at_either [] more place thing at = inr (place, omega arith, at)
  at_either (first ∷ things) more zero thing at = inl at
  at_either (first ∷ things) more (suc place) thing at = elim (at_either things more place thing at) [
    | inl here ↦ inl here
    | inr (further, is, there) ↦ inr (further, omega (arith, is), there)
  ]

  -- what stands before stays before
  before_more : (things more : List X) (one other : X) → StandsBefore things one other → StandsBefore (things ++ more) one other
  before_more things more one other (place, at, first) = (
    place,
    at_left things more place one at,
    λ later stands. elim (at_either things more later other stands) [
      | inl there ↦ first later there
      | inr (further, is, there) ↦ (let within = slice_get_within things place one at in omega (arith, within, is))
    ],
  )

  pairs_more : (P Q : X → X → Type 0) (xs : List X) → ((x y : X) → P x y → Q x y) → AllPairs P xs → AllPairs Q xs
  pairs_more P Q xs step pairs i j d l m = step _ _ (pairs i j d l m)

  again : (things kept : List X) (thing : X) → AreEachOnce things kept → Contains kept thing → AreEachOnce (things ++ thing ∷ []) kept
  again things kept thing once there = record {
    same = λ other. (
      λ inside. Contains-append_left things (thing ∷ []) other ((once.same other).0 inside),
      λ inside. elim (Contains-push_cases things thing other inside) [
        | inl old ↦ (once.same other).1 old
        | inr last ↦ subst (Contains kept) last there
      ],
    );
    in_order = pairs_more (λ one other. StandsBefore things one other) (λ one other. StandsBefore (things ++ thing ∷ []) one other) kept
        (λ one other. before_more things (thing ∷ []) one other) once.in_order;
  }

  -- each old thing stands before a new one
  before_new : (things more : List X) (thing one : X) → ¬ (Contains things thing) → Contains things one → StandsBefore (things ++ more) one thing
  before_new things more thing one new inside =
      let at = place-from_Contains things one inside in (
        at.0,
        at_left things more at.0 one at.1,
        λ later stands. elim (at_either things more later thing stands) [
          | inl there ↦ absurd (new (Contains-at things later thing there))
          | inr (further, is, there) ↦ (let within = slice_get_within things at.0 one at.1 in omega (arith, within, is))
        ],
      )

  -- and new ones stand before each other as they did
  before_both : (things more : List X) (one other : X) → ¬ (Contains things other) → StandsBefore more one other → StandsBefore (things ++ more) one other
  before_both things more one other new (place, at, first) = (
    length things + place,
    at_right things more place one at,
    λ later stands. elim (at_either things more later other stands) [
      | inl there ↦ absurd (new (Contains-at things later other there))
      | inr (further, is, there) ↦ (let less = first further there in omega (arith, less, is))
    ],
  )

  fresh : (things kept : List X) (thing : X) → AreEachOnce things kept → ¬ (Contains kept thing) → AreEachOnce (things ++ thing ∷ []) (kept ++ thing ∷ [])
  fresh things kept thing once new = record {
    same = λ other. (
      λ inside. elim (Contains-push_cases kept thing other inside) [
        | inl old ↦ Contains-append_left things (thing ∷ []) other ((once.same other).0 old)
        | inr last ↦ Contains-append_right things (thing ∷ []) other (subst (Contains (thing ∷ [])) last (Contains-head thing []))
      ],
      λ inside. elim (Contains-push_cases things thing other inside) [
        | inl old ↦ Contains-append_left kept (thing ∷ []) other ((once.same other).1 old)
        | inr last ↦ Contains-append_right kept (thing ∷ []) other (subst (Contains (thing ∷ [])) last (Contains-head thing []))
      ],
    );
    in_order = pairs_append (λ one other. StandsBefore (things ++ thing ∷ []) one other) kept (thing ∷ [])
        (pairs_more (λ one other. StandsBefore things one other) (λ one other. StandsBefore (things ++ thing ∷ []) one other) kept
        (λ one other. before_more things (thing ∷ []) one other) once.in_order)
        (λ i j d l m. absurd (omega (arith, l, m)))
        (λ one last inside at_last. subst (StandsBefore (things ++ thing ∷ []) one) (Contains-one thing last at_last)
        (before_new things (thing ∷ []) thing one (λ there. new ((once.same thing).1 there)) ((once.same one).0 inside)));
  }

  pub one_more : (is_new : Bool) (old new : List X) (thing : X) → IsAdded old new thing is_new → (things : List X) → AreEachOnce things old
      → AreEachOnce (things ++ thing ∷ []) new
  one_more true old new thing (apart, is) things once = subst (AreEachOnce (things ++ thing ∷ [])) (sym is) (fresh things old thing once apart)
  one_more false old new thing (there, is) things once = subst (AreEachOnce (things ++ thing ∷ [])) (sym is) (again things old thing once there)

-- the rows so far are one more
pub more_rows : {X : Type 0} (rows old new : List X) (count : ℕ) (row : X) → count < length rows → row ≡ get_or rows count row
    → AreEachOnce (take count rows) old
    → ((things : List X) → AreEachOnce things old → AreEachOnce (things ++ row ∷ []) new) → AreEachOnce (take (count + 1) rows) new
more_rows rows old new count row within read once step =
    subst (λ those. AreEachOnce those new) (sym (take-item rows count row within read))
    (step (take count rows) once)

pub all_rows : {X : Type 0} (rows kept : List X) (count : ℕ) → length rows ≤ count → AreEachOnce (take count rows) kept → AreEachOnce rows kept
all_rows rows kept count all once = subst (λ those. AreEachOnce those kept) (take_all count rows all) once

-- a row that is new, where those so far are each once
pub one_new : {X : Type 0} (rows old new : List X) (count : ℕ) (row : X) (is_new : Bool) → count < length rows → row ≡ get_or rows count row
    → (old ≡ take count rows) × AreEachOnce (take count rows) old → is_new ≡ true → IsAdded old new row is_new
    → (new ≡ take (count + 1) rows) × AreEachOnce (take (count + 1) rows) new
one_new rows old new count row is_new within read before told added =
    let own = subst (IsAdded old new row) told added in (
      own.1 ∙ ap (λ those. those ++ row ∷ []) before.0 ∙ sym (take-item rows count row within read),
      more_rows rows old new count row within read before.1 (one_more true old new row own),
    )

pub all_new : {X : Type 0} (rows seen : List X) (count : ℕ) → length rows ≤ count → (seen ≡ take count rows) × AreEachOnce (take count rows) seen
    → AreEachOnce rows rows
all_new rows seen count all before =
    subst (AreEachOnce rows) (before.0 ∙ take_all count rows all) (all_rows rows seen count all before.1)

-- ---- all things in the order in which they first stand

module _ {X : Type 0} where
  pub keep_itself : (things : List X) → KeepAll things things
  keep_itself things = record { same = λ thing. ((λ inside. inside), λ inside. inside); in_order = λ one other inside before. before }

  pub keep_on : (things middle others : List X) → KeepAll things middle → KeepAll middle others → KeepAll things others
  keep_on things middle others first next = record {
    same = λ thing. ((λ inside. (next.same thing).0 ((first.same thing).0 inside)), λ inside. (first.same thing).1 ((next.same thing).1 inside));
    in_order = λ one other inside before. next.in_order one other ((first.same other).0 inside) (first.in_order one other inside before);
  }

  -- those of two lists, one after the other
  module _ (decide : (thing other : X) → Decided (thing ≡ other)) (things kept more others : List X) (first : KeepAll things kept)
      (next : KeepAll more others) where
    same_both : (thing : X) → Contains (things ++ more) thing ↔ Contains (kept ++ others) thing
    same_both thing = (
      λ inside. elim (Contains-append_cases things more thing inside) [
        | inl early ↦ Contains-append_left kept others thing ((first.same thing).0 early)
        | inr late ↦ Contains-append_right kept others thing ((next.same thing).0 late)
      ],
      λ inside. elim (Contains-append_cases kept others thing inside) [
        | inl early ↦ Contains-append_left things more thing ((first.same thing).1 early)
        | inr late ↦ Contains-append_right things more thing ((next.same thing).1 late)
      ],
    )

    -- where the one stands in the first list
    early_kept : (one other : X) (place : ℕ) → slice_get things place ≡ Some one
        → ((later : ℕ) → slice_get (things ++ more) later ≡ Some other → place < later) → StandsBefore (kept ++ others) one other
    early_kept one other place here before = elim (contains decide things other) [
      | inl among ↦ before_more kept others one other
          (first.in_order one other among (place, here, λ later there. before later (at_left things more later other there)))
      | inr none ↦ before_new kept others other one (λ among. none ((first.same other).1 among)) ((first.same one).0 (Contains-at things place one here))
    ]

    -- and where it stands in the second, so that the other is not in the first
    late_kept : (one other : X) (further : ℕ) → Contains (things ++ more) other → slice_get more further ≡ Some one
        → ((later : ℕ) → slice_get (things ++ more) later ≡ Some other → length things + further < later) → StandsBefore (kept ++ others) one other
    late_kept one other further inside here before = before_both kept others one other (λ among. none ((first.same other).1 among))
        (next.in_order one other among (further, here, further_on))
      where
        none : ¬ (Contains things other)
        none early =
            let (place, at) = place-from_Contains things other early in
            let less = before place (at_left things more place other at) in
            let within = slice_get_within things place other at in omega (arith, less, within)

        among : Contains more other
        among = elim (Contains-append_cases things more other inside) [ inl early ↦ absurd (none early) | inr late ↦ late ]

        further_on : (later : ℕ) → slice_get more later ≡ Some other → further < later
        further_on later there = let less = before (length things + later) (at_right things more later other there) in omega (arith, less)

    pub keep_both : KeepAll (things ++ more) (kept ++ others)
    keep_both = record {
      same = same_both;
      in_order = λ one other inside (place, at, before). elim (at_either things more place one at) [
        | inl here ↦ early_kept one other place here before
        | inr (further, is, here) ↦
            late_kept one other further inside here (λ later there. let less = before later there in omega (arith, less, is))
      ];
    }

-- what is made of the things each once is what is made of all of them
module _ {X Y : Type 0} (make : X → Y) (things kept : List X) (once : AreEachOnce things kept) where
  same_made : (thing : Y) → Contains (map make things) thing ↔ Contains (map make kept) thing
  same_made thing = (
    λ inside. let (own, among, is) = Contains-map_from make things thing inside in
        subst (Contains (map make kept)) is (Contains-map make kept own ((once.same own).1 among)),
    λ inside. let (own, among, is) = Contains-map_from make kept thing inside in
        subst (Contains (map make things)) is (Contains-map make things own ((once.same own).0 among)),
  )

  -- of two things that are kept the earlier one first stands before the other
  kept_before : (lesser greater : ℕ) (one other : X) → lesser < greater → slice_get kept lesser ≡ Some one → slice_get kept greater ≡ Some other
      → StandsBefore things one other
  kept_before lesser greater one other less at there =
      subst (λ it. StandsBefore things it other) (get_or_from_slice_get kept lesser one other at)
      (subst (StandsBefore things (get_or kept lesser other)) (get_or_from_slice_get kept greater other other there)
      (once.in_order lesser greater other less (slice_get_within kept greater other there)))

  module _ (other : Y) (place : ℕ) (one : X) (at : slice_get things place ≡ Some one)
      (before : (later : ℕ) → slice_get (map make things) later ≡ Some other → place < later) where
    later_kept : (own later : ℕ) → slice_get kept own ≡ Some one → slice_get (map make kept) later ≡ Some other → own < later
    later_kept own later here stands =
        let (next, there, is) = map_at-from make kept later other stands in
        elim (cases_lt own later) [
          | inl less ↦ less
          | inr at_most ↦ elim (cases_lt later own) [
            | inl less ↦
                let (first, first_at, first_before) = kept_before later own next one less there here in
                let one_less = first_before place at in
                let other_less = before first (map_at make things first next first_at ∙ ap Some is) in absurd (omega (arith, one_less, other_less))
            | inr not_less ↦
                let same : later ≡ own = omega (arith, at_most, not_less) in
                let it : next ≡ one = same_Some next one (sym there ∙ ap (slice_get kept) same ∙ here) in
                let less = before place (map_at make things place one at ∙ ap Some (ap make (sym it) ∙ is)) in absurd (omega (arith, less))
          ]
        ]

  pub keep_once : KeepAll (map make things) (map make kept)
  keep_once = record {
    same = same_made;
    in_order = λ one other inside (place, at, before).
        let (own, here, is) = map_at-from make things place one at in
        let (where_kept, there) = place-from_Contains kept own ((once.same own).1 (Contains-at things place own here)) in (
          where_kept,
          map_at make kept where_kept own there ∙ ap Some is,
          λ later stands. later_kept other place own here before where_kept later there stands,
        );
  }

-- ---- the things of a list, each once

module _ {A : Type 0} (same : (thing other : A) → Decided (thing ≡ other)) where
  once_from : (seen rest kept : List A) → AreEachOnce seen kept → (all : List A) × AreEachOnce (seen ++ rest) all
  once_from seen [] kept are = (kept, subst (λ (things : List A). AreEachOnce things kept) (sym (append-nil seen)) are)
  once_from seen (thing ∷ rest) kept are =
      let (next, more) = add (contains same kept thing) in
      let (all, is) = once_from (seen ++ thing ∷ []) rest next more in
      (all, subst (λ (things : List A). AreEachOnce things all) (append_assoc seen (thing ∷ []) rest) is)
    where
      add : Decided (Contains kept thing) → (next : List A) × AreEachOnce (seen ++ thing ∷ []) next
      add (inl there) = (kept, one_more false kept kept thing (there, refl) seen are)
      add (inr new) = (kept ++ thing ∷ [], one_more true kept (kept ++ thing ∷ []) thing (new, refl) seen are)

  -- the things of a list, each once, in order of first occurrence
  pub each_once : (things : List A) → (kept : List A) × AreEachOnce things kept
  each_once things = once_from [] things [] start

-- rows are there each once
pub rows_once : (rows : List (List (List ℕ))) → (kept : List (List (List ℕ))) × AreEachOnce rows kept
rows_once = each_once (same_list same_bytes)
