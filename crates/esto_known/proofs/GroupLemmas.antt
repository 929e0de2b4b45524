-- Groups of entries: one entry more.
use Rattle.std.proofs.Common.{◌≡◌, ◌⊎◌, ◌↔◌, inl, inr, ℕ, zero, suc, ◌+◌, ◌<◌, ◌≤◌, Bool, List, [], ◌∷◌, ◌++◌, length, take, get_or, Some, slice_get, slice_set}
use Rattle.std.proofs.Common.{◌-◌, IsTrue, false, Option, None, MatchOption, Contains, refl, sym, ap, ◌∙◌, subst, arith}
use Rattle.std.proofs.lemmas.Bool.{false≢true, cases_order}
use Rattle.std.proofs.lemmas.List.{length-append, take_all}
use Rattle.std.proofs.lemmas.List.Elements.{Contains-append_left, Contains-push, Contains-push_cases}
use Rattle.std.proofs.lemmas.Option.{none-some, slice_get_within, same_Some, get_or_from_slice_get}
use Rattle.esto_term.specs.declared.term.Term.{Term}
use Rattle.esto_semantics.specs.declared.fact.Fact.{Fact}
use Rattle.esto_term.specs.Sets.{Covers, Within}
use Rattle.esto_term.proofs.ListLemmas.{Contains-nil, Contains-at, Contains-one, Contains-head, place-from_Contains, at_left, at_end, at_pushed}
use Rattle.esto_term.proofs.PlaceLemmas.{take-item}
use Rattle.esto_chase_laws.specs.Worlds.{AreOfCount}
use Rattle.esto_chase_laws.specs.Claims.{AreSameClaim}
use Rattle.esto_chase_laws.specs.declared.entry.Claim.{Claim}
use Rattle.esto_chase_laws.specs.declared.entry.Claim.TheVariants.{Fact as Stated, Same}
use Rattle.esto_chase_laws.specs.declared.entry.Entry.{Entry}
use Rattle.esto_chase_laws.proofs.ClaimLemmas.{stated_same, says_same, same_both, same_itself, same_back}
use Rattle.esto_known.specs.Indexes.{CoversClaim, CoversAt}
use Rattle.esto_known.specs.Groups.{IsGroup, AreGroups, AreLeft, IsOfOne, StatesAt, LinksAt, claims_of}
use Rattle.esto_known.specs.declared.group.Group.{Group}

pub match_weaker : {A : Type 0} (result : Option A) (P P' : Type 0) (Q Q' : A → Type 0) → (P → P') → ((x : A) → Q x → Q' x) → MatchOption result P Q
    → MatchOption result P' Q'
match_weaker None P P' Q Q' f g holds = f holds
match_weaker (Some x) P P' Q Q' f g holds = g x holds

take_first : {X : Type 0} (xs ys : List X) → take (length xs) (xs ++ ys) ≡ xs
take_first [] ys = refl
take_first (x ∷ xs) ys = ap (λ rest. x ∷ rest) (take_first xs ys)

-- what stands before the last item, and the last item
pub put_last : {X : Type 0} (before later items : List X) (it last : X) (count : ℕ) → later ≡ before ++ it ∷ [] → items ≡ later → count ≡ length later
    → slice_get later (count - 1) ≡ Some last → (take (count - 1) items ≡ before) × (last ≡ it)
put_last before later items it last count pushed same counted at =
    let long : length (before ++ it ∷ []) ≡ length before + 1 = length-append before (it ∷ []) in
    let place : count - 1 ≡ length before = omega (arith, counted, ap length pushed, long) in (
      (λ i. take (place i) (same i)) ∙ ap (take (length before)) pushed ∙ take_first before (it ∷ []),
      same_Some last it (sym at ∙ ap (slice_get later) place ∙ ap (λ xs. slice_get xs (length before)) pushed ∙ at_end before it),
    )

pub place_same : (groups : List Group) (claim : Claim) (fact : Fact Term) (place : ℕ) → claim ≡ Stated fact → StatesAt groups fact place
    → (group : Group) × (slice_get groups place ≡ Some group) × AreSameClaim claim group.claim
place_same groups claim fact place is (group, at, states) =
    (group, at, subst (λ it. AreSameClaim it group.claim) (sym is) (stated_same fact group.claim states))

pub place_linked : (groups : List Group) (claim : Claim) (left right : Term) (place : ℕ) → claim ≡ Same left right → LinksAt groups left right place
    → (group : Group) × (slice_get groups place ≡ Some group) × AreSameClaim claim group.claim
place_linked groups claim left right place is (group, at, says) =
    (group, at, subst (λ it. AreSameClaim it group.claim) (sym is) (says_same left right group.claim says))

-- ---- places that are left

pub left_none : (entries : List Entry) (product : List Bool) (left : List ℕ) → left ≡ [] → AreLeft entries product [] left
left_none entries product left is = record {
  of_given = λ place inside. absurd (Contains-nil place (subst (λ it. Contains it place) is inside));
  others = λ place entry inside. absurd (Contains-nil place inside);
}

module _ (entries : List Entry) (product : List Bool) (places left : List ℕ) (at place : ℕ) (within : at < length places)
    (is : place ≡ get_or places at place) (so_far : AreLeft entries product (take at places) left) where
  -- one place more is left
  pub left_kept : (later : List ℕ) → later ≡ left ++ place ∷ [] → AreLeft entries product (take (at + 1) places) later
  left_kept later later_is = rw (take-item places at place within is) (rw later_is (record {
    of_given = λ own inside. elim (Contains-push_cases left place own inside) [
      | inl old ↦ Contains-append_left (take at places) (place ∷ []) own (so_far.of_given own old)
      | inr same ↦ subst (Contains (take at places ++ place ∷ [])) same (Contains-push (take at places) place)
    ];
    others = λ own entry inside own_at. elim (Contains-push_cases (take at places) place own inside) [
      | inl old ↦ elim (so_far.others own entry old own_at) [
        | inl kept ↦ inl (Contains-append_left left (place ∷ []) own kept)
        | inr covered ↦ inr covered
      ]
      | inr same ↦ inl (subst (Contains (left ++ place ∷ [])) same (Contains-push left place))
    ];
  }))

  -- one place more is dropped
  pub left_dropped : ((entry : Entry) → slice_get entries place ≡ Some entry → Within product entry.product)
      → AreLeft entries product (take (at + 1) places) left
  left_dropped covered = rw (take-item places at place within is) (record {
    of_given = λ own inside. Contains-append_left (take at places) (place ∷ []) own (so_far.of_given own inside);
    others = λ own entry inside own_at. elim (Contains-push_cases (take at places) place own inside) [
      | inl old ↦ so_far.others own entry old own_at
      | inr same ↦ inr (covered entry (subst (λ it. slice_get entries it ≡ Some entry) (sym same) own_at))
    ];
  })

pub left_all : (entries : List Entry) (product : List Bool) (places left : List ℕ) (at : ℕ) → length places ≤ at
    → AreLeft entries product (take at places) left → AreLeft entries product places left
left_all entries product places left at past so_far = subst (λ it. AreLeft entries product it left) (take_all at places past) so_far

-- ---- the group of the entry

module _ (entries : List Entry) (entry : Entry) where
  abbrev later : List Entry
  later = entries ++ entry ∷ []

  covers_more : (claim : Claim) (set : List Bool) → CoversClaim entries claim set → CoversClaim later claim set
  covers_more claim set (own, inside, same, within) = (own, Contains-append_left entries (entry ∷ []) own inside, same, within)

  covers_own : (claim : Claim) (set : List Bool) → AreSameClaim entry.claim claim → Within entry.product set → CoversClaim later claim set
  covers_own claim set same within = (entry, Contains-push entries entry, same, within)

  covers_cases : (claim : Claim) (set : List Bool) → CoversClaim later claim set
      → CoversClaim entries claim set ⊎ (AreSameClaim entry.claim claim × Within entry.product set)
  covers_cases claim set (own, inside, same, within) = elim (Contains-push_cases entries entry own inside) [
    | inl earlier ↦ inl (own, earlier, same, within)
    | inr is ↦ inr (subst (λ (it : Entry). AreSameClaim it.claim claim × Within it.product set) (sym is) (same, within))
  ]

  at_more : (claim : Claim) (set : List Bool) (place : ℕ) → CoversAt entries claim set place → CoversAt later claim set place
  at_more claim set place (own, at, same, within) = (own, at_left entries (entry ∷ []) place own at, same, within)

  counts_before : (count : ℕ) → AreOfCount count later → AreOfCount count entries
  counts_before count counts own inside = counts own (Contains-append_left entries (entry ∷ []) own inside)

  -- a group of another claim stays
  pub other_group : (group : Group) → IsGroup entries group → (AreSameClaim entry.claim group.claim → ⊥) → IsGroup later group
  other_group group its other = record {
    claimed = λ place inside. let own = its.claimed place inside in (own.0, at_left entries (entry ∷ []) place own.0 own.1, own.2);
    exact = λ set. ((λ covers. covers_more group.claim set ((its.exact set).0 covers)), (λ covers. (its.exact set).1 (before set covers)));
    live = λ place own at same. elim (at_pushed entries entry place own at) [
      | inl old ↦ let found = its.live place own old same in (found.0, found.1, found.2, at_more group.claim own.product found.0 found.3)
      | inr new ↦ absurd (other (subst (λ (it : Entry). AreSameClaim it.claim group.claim) (sym new.1) same))
    ];
    counted = λ count counts. its.counted count (counts_before count counts);
  }
    where
      before : (set : List Bool) → CoversClaim later group.claim set → CoversClaim entries group.claim set
      before set covers = elim (covers_cases group.claim set covers) [ inl old ↦ old | inr new ↦ absurd (other new.0) ]

  -- the group of its claim with the entry
  pub added_group : (group new : Group) (left : List ℕ) → IsGroup entries group → AreSameClaim entry.claim group.claim → new.claim ≡ group.claim
      → AreLeft entries entry.product group.places left → new.places ≡ left ++ length entries ∷ [] → new.by.count ≡ group.by.count
      → ((set : List Bool) → Covers new.by.sets set ↔ (Covers group.by.sets set ⊎ Within entry.product set)) → IsGroup later new
  added_group group new left its same claim_is are_left places_are count_is covers = record {
    claimed = λ place inside. elim (Contains-push_cases left (length entries) place (subst (λ it. Contains it place) places_are inside)) [
      | inl old ↦ let own = its.claimed place (are_left.of_given place old) in
          (own.0, at_left entries (entry ∷ []) place own.0 own.1, subst (AreSameClaim own.0.claim) (sym claim_is) own.2)
      | inr is ↦ (entry, subst (λ it. slice_get later it ≡ Some entry) is (at_end entries entry), subst (AreSameClaim entry.claim) (sym claim_is) same)
    ];
    exact = λ set. (
      (λ covered. subst (λ it. CoversClaim later it set) (sym claim_is) (elim ((covers set).0 covered) [
        | inl old ↦ covers_more group.claim set ((its.exact set).0 old)
        | inr within ↦ covers_own group.claim set same within
      ])),
      (λ covered. (covers set).1 (elim (covers_cases group.claim set (subst (λ it. CoversClaim later it set) claim_is covered)) [
        | inl old ↦ inl ((its.exact set).1 old)
        | inr own ↦ inr own.1
      ])),
    );
    live = λ place own at alike. elim (at_pushed entries entry place own at) [
      | inl old ↦
          let found = its.live place own old (subst (AreSameClaim own.claim) claim_is alike) in
          elim (are_left.others found.0 found.3.0 found.1 found.3.1) [
            | inl kept ↦ (
              found.0,
              subst (λ it. Contains it found.0) (sym places_are) (Contains-append_left left (length entries ∷ []) found.0 kept),
              found.2,
              subst (λ it. CoversAt later it own.product found.0) (sym claim_is) (at_more group.claim own.product found.0 found.3),
            )
            | inr within ↦ (
              length entries,
              subst (λ it. Contains it (length entries)) (sym places_are) (Contains-push left (length entries)),
              (let below = slice_get_within entries place own old in omega (arith, below)),
              here own.product (λ number has. found.3.3 number (within number has)),
            )
          ]
      | inr new ↦ (
        length entries,
        subst (λ it. Contains it (length entries)) (sym places_are) (Contains-push left (length entries)),
        (let is = new.0 in omega (arith, is)),
        here own.product (subst (λ (it : Entry). Within entry.product it.product) new.1 (λ number has. has)),
      )
    ];
    counted = λ count counts. count_is ∙ its.counted count (counts_before count counts);
  }
    where
      here : (set : List Bool) → Within entry.product set → CoversAt later new.claim set (length entries)
      here set within = (entry, at_end entries entry, subst (AreSameClaim entry.claim) (sym claim_is) same, within)

  -- a group of the entry alone, where no entry before has its claim
  pub first_group : (groups : List Group) (new : Group) → AreGroups entries groups
      → ((group : Group) → Contains groups group → AreSameClaim entry.claim group.claim → ⊥) → IsOfOne (length entries) entry new → IsGroup later new
  first_group groups new are none its = record {
    claimed = λ place inside. let is = Contains-one (length entries) place (subst (λ it. Contains it place) its.places inside) in
        (entry, subst (λ it. slice_get later it ≡ Some entry) is (at_end entries entry), same);
    exact = λ set. ((λ covered. covers_own new.claim set same ((its.covers set).0 covered)), (λ covered. (its.covers set).1 (own set covered)));
    live = λ place own at alike. elim (at_pushed entries entry place own at) [
      | inl old ↦ absurd (before own (Contains-at entries place own old) alike)
      | inr is ↦ (
        length entries,
        subst (λ it. Contains it (length entries)) (sym its.places) (Contains-head (length entries) []),
        (let here = is.0 in omega (arith, here)),
        (entry, at_end entries entry, same, subst (λ (it : Entry). Within entry.product it.product) is.1 (λ number has. has)),
      )
    ];
    counted = λ count counts. its.count ∙ counts entry (Contains-push entries entry);
  }
    where
      same : AreSameClaim entry.claim new.claim
      same = subst (AreSameClaim entry.claim) (sym its.claim) (same_itself entry.claim)

      before : (own : Entry) → Contains entries own → AreSameClaim own.claim new.claim → ⊥
      before own inside alike = let found = are.all own inside in
          none found.0 found.1 (same_both own.claim entry.claim found.0.claim (subst (AreSameClaim own.claim) its.claim alike) found.2)

      own : (set : List Bool) → CoversClaim later new.claim set → Within entry.product set
      own set covered = elim (covers_cases new.claim set covered) [
        | inl old ↦ absurd (before old.0 old.1 old.2)
        | inr it ↦ it.1
      ]

-- ---- all groups

set_cases : {X : Type 0} (xs : List X) (at : ℕ) (new : X) (place : ℕ) (x : X) → slice_get (slice_set xs at new) place ≡ Some x
    → ((place ≡ at) × (x ≡ new)) ⊎ ((place ≡ at → ⊥) × (slice_get xs place ≡ Some x))
set_cases [] at new place x is = absurd (cc)
set_cases (first ∷ rest) zero new zero x is = inl (refl, sym (same_Some new x is))
set_cases (first ∷ rest) zero new (suc place) x is = inr ((λ same. omega (arith, same)), is)
set_cases (first ∷ rest) (suc at) new zero x is = inr ((λ same. omega (arith, same)), is)
set_cases (first ∷ rest) (suc at) new (suc place) x is = elim (set_cases rest at new place x is) [
  | inl own ↦ inl (ap suc own.0, own.1)
  | inr other ↦ inr ((λ same. other.0 (omega (arith, same))), other.1)
]

set_other : {X : Type 0} (xs : List X) (at : ℕ) (new : X) (place : ℕ) (x : X) → (place ≡ at → ⊥) → slice_get xs place ≡ Some x
    → slice_get (slice_set xs at new) place ≡ Some x
set_other [] at new place x apart is = absurd (cc)
set_other (first ∷ rest) zero new zero x apart is = absurd (apart refl)
set_other (first ∷ rest) zero new (suc place) x apart is = is
set_other (first ∷ rest) (suc at) new zero x apart is = is
set_other (first ∷ rest) (suc at) new (suc place) x apart is = set_other rest at new place x (λ same. apart (ap suc same)) is

set_own : {X : Type 0} (xs : List X) (at : ℕ) (new x : X) → slice_get xs at ≡ Some x → slice_get (slice_set xs at new) at ≡ Some new
set_own [] at new x is = absurd (cc)
set_own (first ∷ rest) zero new x is = refl
set_own (first ∷ rest) (suc at) new x is = set_own rest at new x is

module _ (entries : List Entry) (entry : Entry) (groups : List Group) (are : AreGroups entries groups) where
  abbrev grown : List Entry
  grown = entries ++ entry ∷ []

  -- where the entry comes into the group of its claim
  pub groups_with : (place : ℕ) (group new : Group) → slice_get groups place ≡ Some group → AreSameClaim entry.claim group.claim
      → new.claim ≡ group.claim → IsGroup grown new → AreGroups grown (slice_set groups place new)
  groups_with place group new at same claim_is its = record {
    each = λ own inside. let found = place-from_Contains (slice_set groups place new) own inside in
        elim (set_cases groups place new found.0 own found.1) [
          | inl is ↦ subst (IsGroup grown) (sym is.1) its
          | inr other ↦ other_group entries entry own (are.each own (Contains-at groups found.0 own other.1))
              (λ alike. other.0 (are.distinct found.0 place own group other.1 at (same_both entry.claim own.claim group.claim alike same)))
        ];
    all = λ own inside. elim (Contains-push_cases entries entry own inside) [
      | inl earlier ↦ let found = are.all own earlier in let kept = stays found.0 found.1 in
          (kept.0, kept.1, subst (AreSameClaim own.claim) (sym kept.2) found.2)
      | inr is ↦ (
        new,
        Contains-at (slice_set groups place new) place new (set_own groups place new group at),
        subst (λ (it : Entry). AreSameClaim it.claim new.claim) is (subst (AreSameClaim entry.claim) (sym claim_is) same),
      )
    ];
    distinct = λ one other own its_own at_one at_other alike.
        let first = before one own at_one in let second = before other its_own at_other in
        are.distinct one other first.0 second.0 first.1 second.1
        (subst (AreSameClaim first.0.claim) second.2 (subst (λ it. AreSameClaim it its_own.claim) first.2 alike));
  }
    where
      before : (one : ℕ) (own : Group) → slice_get (slice_set groups place new) one ≡ Some own
          → (old : Group) × (slice_get groups one ≡ Some old) × (own.claim ≡ old.claim)
      before one own at_one = elim (set_cases groups place new one own at_one) [
        | inl is ↦ (group, subst (λ it. slice_get groups it ≡ Some group) (sym is.0) at, ap (λ (it : Group). it.claim) is.1 ∙ claim_is)
        | inr other ↦ (own, other.1, refl)
      ]

      stays : (own : Group) → Contains groups own → (later : Group) × Contains (slice_set groups place new) later × (later.claim ≡ own.claim)
      stays own inside = let found = place-from_Contains groups own inside in elim (cases_order found.0 place) [
        | inl is ↦ (
          new,
          Contains-at (slice_set groups place new) place new (set_own groups place new group at),
          claim_is ∙ ap (λ (it : Group). it.claim) (same_Some group own (sym at ∙ subst (λ it. slice_get groups it ≡ Some own) is found.1)),
        )
        | inr apart ↦ (
          own,
          Contains-at (slice_set groups place new) found.0 own (set_other groups place new found.0 own (λ is. elim apart [
            | inl below ↦ omega (arith, below, is)
            | inr above ↦ omega (arith, above, is)
          ]) found.1),
          refl,
        )
      ]

  -- where it comes into a group of its own
  pub groups_and : (new : Group) → ((group : Group) → Contains groups group → AreSameClaim entry.claim group.claim → ⊥) → new.claim ≡ entry.claim
      → IsGroup grown new → AreGroups grown (groups ++ new ∷ [])
  groups_and new none claim_is its = record {
    each = λ own inside. elim (Contains-push_cases groups new own inside) [
      | inl old ↦ other_group entries entry own (are.each own old) (none own old)
      | inr is ↦ subst (IsGroup grown) is its
    ];
    all = λ own inside. elim (Contains-push_cases entries entry own inside) [
      | inl earlier ↦ let found = are.all own earlier in (found.0, Contains-append_left groups (new ∷ []) found.0 found.1, found.2)
      | inr is ↦ (
        new,
        Contains-push groups new,
        subst (λ (it : Entry). AreSameClaim it.claim new.claim) is (subst (AreSameClaim entry.claim) (sym claim_is) (same_itself entry.claim)),
      )
    ];
    distinct = λ one other own its_own at_one at_other alike. elim (at_pushed groups new one own at_one) [
      | inl first ↦ elim (at_pushed groups new other its_own at_other) [
        | inl second ↦ are.distinct one other own its_own first second alike
        | inr second ↦ absurd (none own (Contains-at groups one own first) (same_back own.claim entry.claim
            (subst (AreSameClaim own.claim) (sym (ap (λ (it : Group). it.claim) second.1) ∙ claim_is) alike)))
      ]
      | inr first ↦ elim (at_pushed groups new other its_own at_other) [
        | inl second ↦ absurd (none its_own (Contains-at groups other its_own second)
            (subst (λ it. AreSameClaim it its_own.claim) (sym (ap (λ (it : Group). it.claim) first.1) ∙ claim_is) alike))
        | inr second ↦ first.0 ∙ sym second.0
      ]
    ];
  }

-- the group that is read at the place of one is that one
module _ (groups items : List Group) (place : ℕ) (read new : Group) (same : items ≡ groups) (read_is : read ≡ get_or groups place read) (found : Group)
    (at : slice_get items place ≡ Some found) where
  stands : slice_get groups place ≡ Some found
  stands = subst (λ its. slice_get its place ≡ Some found) same at

  found_is : found ≡ read
  found_is = sym (read_is ∙ get_or_from_slice_get groups place found read stands)

  pub claims_stay : new.claim ≡ read.claim → claims_of (slice_set groups place new) ≡ claims_of groups
  claims_stay claim_is = by groups place stands
    where
      by : (its : List Group) (number : ℕ) → slice_get its number ≡ Some found → claims_of (slice_set its number new) ≡ claims_of its
      by [] number there = absurd (none-some found there)
      by (first ∷ rest) zero there = λ i. (claim_is ∙ sym (ap (λ (it : Group). it.claim) (same_Some first found there ∙ found_is))) i ∷ claims_of rest
      by (first ∷ rest) (suc number) there = λ i. first.claim ∷ by rest number there i

  pub groups_taken : (entries : List Entry) (entry : Entry) → AreGroups entries groups → AreSameClaim entry.claim found.claim
      → (new.claim ≡ read.claim) × IsGroup (entries ++ entry ∷ []) new → AreGroups (entries ++ entry ∷ []) (slice_set groups place new)
  groups_taken entries entry are alike its = groups_with entries entry groups are place found new stands alike
      (its.0 ∙ sym (ap (λ (it : Group). it.claim) found_is)) its.1

-- ---- what the groups of a claim tell

-- a set is covered exactly where the claim's group covers it
pub group_covers : (entries : List Entry) (groups : List Group) (claim : Claim) (group : Group) (product : List Bool) → AreGroups entries groups
    → Contains groups group → AreSameClaim claim group.claim → Covers group.by.sets product ↔ CoversClaim entries claim product
group_covers entries groups claim group product are inside same = (
  (λ covered. let found = ((are.each group inside).exact product).0 covered in
      (found.0, found.1, same_both group.claim found.0.claim claim (same_back found.0.claim group.claim found.2) (same_back claim group.claim same), found.3)),
  (λ covered. ((are.each group inside).exact product).1
      (covered.0, covered.1, same_both claim covered.0.claim group.claim (same_back covered.0.claim claim covered.2) same, covered.3)),
)

-- and none where it has no group
pub no_group : (entries : List Entry) (groups : List Group) (claim : Claim) (product : List Bool) → AreGroups entries groups
    → ((group : Group) → Contains groups group → AreSameClaim claim group.claim → ⊥) → CoversClaim entries claim product → ⊥
no_group entries groups claim product are none (entry, inside, same, within) =
    let found = are.all entry inside in none found.0 found.1 (same_both entry.claim claim found.0.claim same found.2)

pub group_counts : (entries : List Entry) (groups : List Group) (group : Group) (count : ℕ) → AreGroups entries groups → Contains groups group
    → AreOfCount count entries → count ≡ group.by.count
group_counts entries groups group count are inside counts = sym ((are.each group inside).counted count counts)

pub group_tells : (entries : List Entry) (groups : List Group) (claim : Claim) (group : Group) (product : List Bool) (result : Bool) → AreGroups entries groups
    → Contains groups group → AreSameClaim claim group.claim → IsTrue result ↔ Covers group.by.sets product → IsTrue result ↔ CoversClaim entries claim product
group_tells entries groups claim group product result are inside same told =
    let covers = group_covers entries groups claim group product are inside same in
    ((λ yes. covers.0 (told.0 yes)), (λ covered. told.1 (covers.1 covered)))

pub none_tells : (entries : List Entry) (groups : List Group) (claim : Claim) (product : List Bool) → AreGroups entries groups
    → ((group : Group) → Contains groups group → AreSameClaim claim group.claim → ⊥) → IsTrue false ↔ CoversClaim entries claim product
none_tells entries groups claim product are none =
    ((λ wrong. absurd (false≢true wrong)), (λ covered. absurd (no_group entries groups claim product are none covered)))
