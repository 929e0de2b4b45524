-- Turns of the loops that gather what is group and what is reached.
use Rattle.std.proofs.Common.{◌≡◌, ◌⊎◌, ◌↔◌, ◌<◌, inl, inr, ℕ, Bool, List, [], ◌∷◌, ◌++◌, length, map, set, get_or, slice_get, Some, Contains}
use Rattle.std.proofs.Common.{sym, ap, ◌∙◌, subst, arith}
use Rattle.std.proofs.lemmas.List.{nil_from_length}
use Rattle.std.specs.List.{AllZip}
use Rattle.std.proofs.lemmas.Bool.{cases_lt}
use Rattle.std.proofs.lemmas.List.{get_or-set_other, get_or-set_same, get_or_default, length-set}
use Rattle.std.proofs.lemmas.List.Elements.{Contains-append_left, Contains-push, Contains-push_cases}
use Rattle.esto_term.specs.declared.term.Term.{Term}
use Rattle.esto_term.proofs.ListLemmas.{Contains-head, Contains-one, place-from_Contains}
use Rattle.std.proofs.lemmas.Option.{same_Some}
use Rattle.esto_term.specs.Sets.{Covers}
use Rattle.esto_semantics.specs.declared.fact.Fact.{Fact}
use Rattle.esto_bits.specs.Kept.{Kept, CoversBoth}
use Rattle.esto_chase_laws.specs.WorldMatches.{IsLike, taken}
use Rattle.esto_chase_laws.specs.declared.entry.Claim.TheVariants.{Fact as Stated}
use Rattle.esto_chase_laws.specs.declared.entry.Entry.{Entry}
use Rattle.esto_condchase.specs.Products.{Reach, AreReachedOf, StepsBy, StepsWith, IsFirst, IsReachedBy}
use Rattle.esto_known.specs.Touching.{AreGroupsOf, AreTouching}
use Rattle.esto_chase_laws.specs.Worlds.{AreOfCount}
use Rattle.esto_known.specs.Groups.{AreGroups}
use Rattle.esto_known.specs.declared.group.Group.{Group}
use Rattle.esto_condchase.specs.declared.reached.Reached.{Reached}
use Rattle.esto_bits.proofs.JoinLemmas.{covers_none}

-- ---- what is reached

reach_more : (ones : List Reached) (one : Reached) (to : List Term) (set : List Bool)
    → Reach (ones ++ one ∷ []) to set ↔ (Reach ones to set ⊎ ((one.to ≡ to) × Covers one.by.sets set))
reach_more ones one to set = (
  (λ (it, inside, is, covers). elim (Contains-push_cases ones one it inside) [
    | inl earlier ↦ inl (it, earlier, is, covers)
    | inr same ↦ inr (subst (λ (its : Reached). (its.to ≡ to) × Covers its.by.sets set) (sym same) (is, covers))
  ]),
  (λ which. elim which [
    | inl (it, inside, is, covers) ↦ (it, Contains-append_left ones (one ∷ []) it inside, is, covers)
    | inr (is, covers) ↦ (one, Contains-push ones one, is, covers)
  ]),
)

-- one is put in place of the one at a place
module _ (ones : List Reached) (place : ℕ) (below : place < length ones) (one own : Reached) (is : get_or ones place one ≡ one) where
  abbrev put : List Reached
  put = set ones place own

  from_put : (it : Reached) → Contains put it → (it ≡ own) ⊎ Contains ones it
  from_put it (at, within, read) = elim (cases_lt at place) [
    | inl before ↦ inr (at, omega (arith, before, below), sym (get_or-set_other ones place at own it (λ same. omega (arith, before, same))) ∙ read)
    | inr after ↦ elim (cases_lt place at) [
      | inl behind ↦ inr (
        at,
        omega (arith, within, length-set ones place own),
        sym (get_or-set_other ones place at own it (λ same. omega (arith, behind, same))) ∙ read,
      )
      | inr here ↦
          let same : at ≡ place = omega (arith, after, here) in
          inl (sym read ∙ ap (λ n. get_or put n it) same ∙ get_or-set_same ones place own it below)
    ]
  ]

  to_put : (it : Reached) → Contains ones it → (it ≡ one) ⊎ Contains put it
  to_put it (at, within, read) = elim (cases_lt at place) [
    | inl before ↦ inr (
      at,
      omega (arith, within, length-set ones place own),
      get_or-set_other ones place at own it (λ same. omega (arith, before, same)) ∙ read,
    )
    | inr after ↦ elim (cases_lt place at) [
      | inl behind ↦ inr (
        at,
        omega (arith, within, length-set ones place own),
        get_or-set_other ones place at own it (λ same. omega (arith, behind, same)) ∙ read,
      )
      | inr here ↦
          let same : at ≡ place = omega (arith, after, here) in
          inl (sym read ∙ ap (λ n. get_or ones n it) same ∙ get_or_default ones place it one below ∙ is)
    ]
  ]

  own_put : Contains put own
  own_put = (place, omega (arith, below, length-set ones place own), get_or-set_same ones place own own below)

  pub reach_at : (sets others : List (List Bool)) (later : List Reached) → later ≡ put → own.to ≡ one.to
      → ((set : List Bool) → Covers own.by.sets set ↔ (Covers one.by.sets set ⊎ (Covers sets set × Covers others set)))
      → (to : List Term) (set : List Bool) → Reach later to set ↔ (Reach ones to set ⊎ IsReachedBy one.to sets others to set)
  reach_at sets others later grown same by to set = rw grown (
    (λ (it, inside, to_is, covers). elim (from_put it inside) [
      | inl its ↦
          let own_to : own.to ≡ to = ap (λ (them : Reached). them.to) (sym its) ∙ to_is in
          elim ((by set).0 (subst (λ (them : Reached). Covers them.by.sets set) its covers)) [
            | inl before ↦ inl (one, (place, below, is), sym same ∙ own_to, before)
            | inr both ↦ inr (sym same ∙ own_to, both.0, both.1)
          ]
      | inr there ↦ inl (it, there, to_is, covers)
    ]),
    (λ which. elim which [
      | inl (it, inside, to_is, covers) ↦ elim (to_put it inside) [
        | inl its ↦ (
          own,
          own_put,
          same ∙ ap (λ (them : Reached). them.to) (sym its) ∙ to_is,
          (by set).1 (inl (subst (λ (them : Reached). Covers them.by.sets set) its covers)),
        )
        | inr there ↦ (it, there, to_is, covers)
      ]
      | inr (to_is, covers, others_cover) ↦ (own, own_put, same ∙ to_is, (by set).1 (inr (covers, others_cover)))
    ]),
  )

  pub reached_at : (count : ℕ) (later : List Reached) → later ≡ put → own.by.count ≡ count → AreReachedOf count ones → AreReachedOf count later
  reached_at count later grown counted so_far = rw grown (λ it inside. elim (from_put it inside) [
    | inl its ↦ subst (λ (them : Reached). them.by.count ≡ count) (sym its) counted
    | inr there ↦ so_far it there
  ])

-- the one at the place has reached the terms
pub reach_there : (ones later : List Reached) (place : ℕ) (to : List Term) (sets others : List (List Bool))
    → (one : Reached) × (slice_get ones place ≡ Some one) × (one.to ≡ to)
    → (one : Reached) × (slice_get ones place ≡ Some one)
    × ((own : List Term) (set : List Bool) → Reach later own set ↔ (Reach ones own set ⊎ IsReachedBy one.to sets others own set))
    → (own : List Term) (set : List Bool) → Reach later own set ↔ (Reach ones own set ⊎ IsReachedBy to sets others own set)
reach_there ones later place to sets others (found, there, is) (one, read, adds) =
    subst (λ it. (own : List Term) (set : List Bool) → Reach later own set ↔ (Reach ones own set ⊎ IsReachedBy it sets others own set))
    (ap (λ (it : Reached). it.to) (same_Some one found (sym read ∙ there)) ∙ is) adds

pub reach_new : (ones later : List Reached) (own : Reached) (sets others : List (List Bool)) → later ≡ ones ++ own ∷ [] → CoversBoth sets others own.by.sets
    → (to : List Term) (set : List Bool) → Reach later to set ↔ (Reach ones to set ⊎ IsReachedBy own.to sets others to set)
reach_new ones later own sets others grown both to set =
    let more = reach_more ones own to set in rw grown (
      (λ reach. elim (more.0 reach) [ inl before ↦ inl before | inr (is, covers) ↦ (let parts = (both set).0 covers in inr (is, parts.0, parts.1)) ]),
      (λ which. more.1 (elim which [ inl before ↦ inl before | inr (is, covers, its) ↦ inr (is, (both set).1 (covers, its)) ])),
    )

pub reach_none : (ones : List Reached) (told : List Term) (sets others : List (List Bool)) → length others ≡ 0 → (own : List Term) (set : List Bool)
    → Reach ones own set ↔ (Reach ones own set ⊎ IsReachedBy told sets others own set)
reach_none ones told sets others empty own set = (
  (λ reach. inl reach),
  (λ which. elim which [
    | inl reach ↦ reach
    | inr (is, covers, its) ↦ absurd (covers_none set (subst (λ it. Covers it set) (nil_from_length others empty) its))
  ]),
)

module _ (groups : List Group) (from these : List Term) (atom : Fact Term) (one : Reached) (by : List (List Bool)) (fact : Fact Term)
    (to to_items fact_items atom_items : List Term) (needs : List (List Bool)) (to_is : to ≡ one.to ++ fact.terms)
    (to_same : to_items ≡ to) (fact_same : fact_items ≡ fact.terms) (atom_same : atom_items ≡ atom.terms)
    (touches : (set : List Bool)
    → Covers needs set ↔ (Covers by set × AllZip (AreTouching groups set) fact_items (map (taken from to_items) atom_items)))
    (later : List Reached) where
  abbrev Needs : List Bool → Type 0
  Needs set = Covers by set × AllZip (AreTouching groups set) fact.terms (map (taken from (one.to ++ fact.terms)) atom.terms)

  row_is : map (taken from to_items) atom_items ≡ map (taken from (one.to ++ fact.terms)) atom.terms
  row_is i = map (taken from ((to_same ∙ to_is) i)) (atom_same i)

  covers_needs : (set : List Bool) → Covers needs set ↔ Needs set
  covers_needs set = (
    (λ covers.
        let own = (touches set).0 covers in (
          own.0,
          subst (λ it. AllZip (AreTouching groups set) it (map (taken from (one.to ++ fact.terms)) atom.terms)) fact_same
              (subst (AllZip (AreTouching groups set) fact_items) row_is own.1),
        )),
    (λ (covers, row). (touches set).1 (
      covers,
      subst (AllZip (AreTouching groups set) fact_items) (sym row_is)
          (subst (λ it. AllZip (AreTouching groups set) it (map (taken from (one.to ++ fact.terms)) atom.terms)) (sym fact_same) row),
    )),
  )

  pub step_more : (told told_items : List Term) (after : List Reached) → told_items ≡ to → told ≡ map (taken from told_items) these
      → ((own : List Term) (set : List Bool) → Reach after own set ↔ (Reach later own set ⊎ IsReachedBy told one.by.sets needs own set))
      → (own : List Term) (set : List Bool) → Reach after own set ↔ (Reach later own set ⊎ StepsBy groups from these atom one by fact own set)
  step_more told told_items after items_same told_is adds own set =
      let told_all : told ≡ map (taken from (one.to ++ fact.terms)) these = told_is ∙ (λ i. map (taken from ((items_same ∙ to_is) i)) these) in (
        (λ reach. elim ((adds own set).0 reach) [
          | inl earlier ↦ inl earlier
          | inr (is, covers, its) ↦ (let (covers_by, row) = (covers_needs set).0 its in inr (sym is ∙ told_all, covers, covers_by, row))
        ]),
        (λ which. (adds own set).1 (elim which [
          | inl earlier ↦ inl earlier
          | inr (is, covers, covers_by, row) ↦ inr (told_all ∙ sym is, covers, (covers_needs set).1 (covers_by, row))
        ])),
      )

pub reached_more : (count : ℕ) (ones later : List Reached) (one : Reached) → later ≡ ones ++ one ∷ [] → one.by.count ≡ count → AreReachedOf count ones
    → AreReachedOf count later
reached_more count ones later one grown counted so_far = rw grown (λ it inside. elim (Contains-push_cases ones one it inside) [
  | inl earlier ↦ so_far it earlier
  | inr same ↦ subst (λ (it : Reached). it.by.count ≡ count) same counted
])

module _ (groups : List Group) (from these : List Term) (atom : Fact Term) (one : Reached) (group : Group) (earlier later : List Reached) where
  abbrev Adds : Type 0
  Adds = (to : List Term) (set : List Bool) → Reach later to set ↔ (Reach earlier to set ⊎ StepsWith groups from these atom one group to set)

  pub with_fact : (fact : Fact Term) → group.claim ≡ Stated fact → IsLike atom fact
      → ((to : List Term) (set : List Bool) → Reach later to set ↔ (Reach earlier to set ⊎ StepsBy groups from these atom one group.by.sets fact to set)) → Adds
  with_fact fact states like steps to set = (
    (λ reach. elim ((steps to set).0 reach) [ inl before ↦ inl before | inr its ↦ inr (fact, states, like, its) ]),
    (λ which. (steps to set).1 (elim which [
      | inl before ↦ inl before
      | inr (other, other_states, other_like, its) ↦
          let claims : Stated fact ≡ Stated other = sym states ∙ other_states in
          let same : other ≡ fact = cc in
          inr (subst (λ it. StepsBy groups from these atom one group.by.sets it to set) same its)
    ])),
  )

-- ---- the begin

pub first_is : (groups : List Group) (head targets : List Term) (by : Kept) (copied : List Term) (ones : List Reached) → copied ≡ targets
    → ((set : List Bool) → Covers by.sets set ↔ AllZip (AreTouching groups set) targets (map (taken head targets) head))
    → ones ≡ (record { to = copied; by = by }) ∷ [] → IsFirst groups head targets ones
first_is groups head targets by copied ones copied_is touches is_one to set =
    rw is_one (
      (λ (one, inside, is, covers).
          let same : one ≡ record { to = copied; by = by } = sym (Contains-one (record { to = copied; by = by }) one inside) in (
            sym is ∙ ap (λ (it : Reached). it.to) same ∙ copied_is,
            (touches set).0 (subst (λ (it : Reached). Covers it.by.sets set) same covers),
          )),
      (λ (is, row). (record { to = copied; by = by }, Contains-head (record { to = copied; by = by }) [], copied_is ∙ sym is, (touches set).1 row)),
    )

pub first_counted : (count : ℕ) (ones : List Reached) (one : Reached) → ones ≡ one ∷ [] → one.by.count ≡ count → AreReachedOf count ones
first_counted count ones one is counted other inside =
    ap (λ (it : Reached). it.by.count) (sym (Contains-one one other (subst (λ (it : List Reached). Contains it other) is inside))) ∙ counted

-- ---- the groups of the entries

pub groups_of : (entries : List Entry) (count : ℕ) (groups : List Group) → AreOfCount count entries → AreGroups entries groups → AreGroupsOf count groups
groups_of entries count groups counts are = record {
  counted = λ group inside. (are.each group inside).counted count counts;
  distinct = λ group other inside there same.
      let (place, at) = place-from_Contains groups group inside in
      let (its_place, its_at) = place-from_Contains groups other there in
      let one : place ≡ its_place = are.distinct place its_place group other at its_at same in
      same_Some group other (sym at ∙ ap (slice_get groups) one ∙ its_at);
}
