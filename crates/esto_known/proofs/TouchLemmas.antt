-- Turns of the loop that goes through rows of terms that touch.
use Rattle.std.proofs.Common.{◌≡◌, zero, suc, ℕ, List, [], ◌∷◌, length, take}
use Rattle.std.proofs.Common.{refl, arith, ◌≢◌, ◌⊎◌, ◌↔◌, ◌<◌, ◌≤◌, ◌+◌, inl, inr, Bool, set, get_or, Contains, sym, subst}
use Rattle.std.specs.List.{AllZip}
use Rattle.std.proofs.lemmas.List.{nil_from_length, take_all}
use Rattle.esto_term.specs.declared.term.Term.{Term}
use Rattle.esto_term.proofs.ListLemmas.{Contains-nil}
use Rattle.esto_term.proofs.PlaceLemmas.{take-item}
use Rattle.esto_term.proofs.ZipLemmas.{zip_append, zip_split}
use Rattle.esto_term.specs.Sets.{Covers, Within}
use Rattle.esto_bits.specs.Kept.{CoversAlso, CoversBoth}
use Rattle.esto_chase_laws.specs.Claims.{AreSameClaim}
use Rattle.esto_chase_laws.specs.declared.entry.Claim.{Claim}
use Rattle.esto_chase_laws.specs.declared.entry.Claim.TheVariants.{Same}
use Rattle.esto_known.specs.Touching.{AreGroupsOf, AreLinked, AreTouching}
use Rattle.esto_chase_laws.specs.Worlds.{SaysOne}
use Rattle.esto_known.specs.declared.group.Group.{Group}

pub same_take : {X Y : Type 0} (xs : List X) (ys : List Y) (place : ℕ) → length xs ≡ length ys → length (take place xs) ≡ length (take place ys)
same_take xs ys zero same = refl
same_take [] [] (suc place) same = refl
same_take [] (y ∷ ys) (suc place) same = absurd (omega (arith, same))
same_take (x ∷ xs) [] (suc place) same = absurd (omega (arith, same))
same_take (x ∷ xs) (y ∷ ys) (suc place) same = let rest = same_take xs ys place (omega (arith, same)) in omega (arith, rest)

none_covered : (sets : List (List Bool)) (set : List Bool) → length sets ≡ 0 → Covers sets set → ⊥
none_covered sets set empty (low, inside, within) = Contains-nil low (subst (λ it. Contains it low) (nil_from_length sets empty) inside)

pub both_from_none : (none sets others found : List (List Bool)) → none ≡ []
    → ((set : List Bool) → Covers found set ↔ (Covers none set ⊎ (Covers sets set × Covers others set))) → CoversBoth sets others found
both_from_none none sets others found empty all set = (
  (λ covers. elim ((all set).0 covers) [
    | inl before ↦ absurd (none_covered [] set refl (subst (λ it. Covers it set) empty before))
    | inr both ↦ both
  ]),
  (λ both. (all set).1 (inr both)),
)

pub one_from_none : (none : List (List Bool)) (row : List Bool) (later : List (List Bool)) → none ≡ [] → CoversAlso none row later
    → (set : List Bool) → Covers later set ↔ Within row set
one_from_none none row later empty also set = (
  (λ covers. elim ((also set).0 covers) [
    | inl before ↦ absurd (none_covered [] set refl (subst (λ it. Covers it set) empty before))
    | inr within ↦ within
  ]),
  (λ within. (also set).1 (inr within)),
)

pub touch_nowhere : (groups : List Group) (sets : List (List Bool)) (term other : Term) → length sets ≡ 0
    → (set : List Bool) → Covers sets set ↔ (Covers sets set × AreTouching groups set term other)
touch_nowhere groups sets term other empty set = ((λ covers. absurd (none_covered sets set empty covers)), (λ parts. parts.0))

-- an equality of two terms is known by the sets of its group
module _ (count : ℕ) (groups : List Group) (of_count : AreGroupsOf count groups) (sets kept : List (List Bool)) (term other : Term) where
  as_said : (one its said told : Claim) → one ≡ said → its ≡ told → AreSameClaim said told → AreSameClaim one its
  as_said one its said told is its_is same = subst (λ it. AreSameClaim it its) (sym is) (subst (AreSameClaim said) (sym its_is) same)

  one_claim : (one its : Claim) → SaysOne one term other → SaysOne its term other → AreSameClaim one its
  one_claim one its (inl is) (inl its_is) = as_said one its (Same term other) (Same term other) is its_is (inl (refl, refl))
  one_claim one its (inl is) (inr its_is) = as_said one its (Same term other) (Same other term) is its_is (inr (refl, refl))
  one_claim one its (inr is) (inl its_is) = as_said one its (Same other term) (Same term other) is its_is (inr (refl, refl))
  one_claim one its (inr is) (inr its_is) = as_said one its (Same other term) (Same other term) is its_is (inl (refl, refl))

  pub linked_by : (group : Group) → Contains groups group → SaysOne group.claim term other → CoversBoth sets group.by.sets kept
      → (set : List Bool) → Covers kept set ↔ (Covers sets set × AreLinked groups set term other)
  linked_by group inside says both set = (
    (λ covers. let parts = (both set).0 covers in (parts.0, (group, inside, says, parts.1))),
    (λ (covers, (its, there, its_says, its_covers)). (both set).1 (
      covers,
      subst (λ (it : Group). Covers it.by.sets set) (of_count.distinct its group there inside (one_claim its.claim group.claim its_says says)) its_covers,
    )),
  )

pub linked_never : (groups : List Group) (sets kept : List (List Bool)) (term other : Term) → kept ≡ []
    → ((group : Group) → Contains groups group → ¬ (SaysOne group.claim term other))
    → (set : List Bool) → Covers kept set ↔ (Covers sets set × AreLinked groups set term other)
linked_never groups sets kept term other none never set = (
  (λ covers. absurd (none_covered [] set refl (subst (λ it. Covers it set) none covers))),
  (λ (covers, (group, inside, says, its)). absurd (never group inside says)),
)

pub touch_linked : (groups : List Group) (sets kept : List (List Bool)) (term other : Term) → term ≢ other
    → ((set : List Bool) → Covers kept set ↔ (Covers sets set × AreLinked groups set term other))
    → (set : List Bool) → Covers kept set ↔ (Covers sets set × AreTouching groups set term other)
touch_linked groups sets kept term other apart linked set = (
  (λ covers. let parts = (linked set).0 covers in (parts.0, inr parts.1)),
  (λ (covers, touching). (linked set).1 (covers, elim touching [ inl is ↦ absurd (apart is) | inr its ↦ its ])),
)

-- the terms so far touch the others
abbrev pub TouchSoFar : List Group → List Term → List Term → List (List Bool) → ℕ → List (List Bool) → Type 0
TouchSoFar groups terms others start place sets =
    (set : List Bool) → Covers sets set ↔ (Covers start set × AllZip (AreTouching groups set) (take place terms) (take place others))

pub touch_turn : (groups : List Group) (terms others : List Term) (start sets later : List (List Bool)) (place : ℕ) (term other : Term) → length terms
    ≡ length others → place < length terms → term ≡ get_or terms place term → other ≡ get_or others place other
    → TouchSoFar groups terms others start place sets
    → ((set : List Bool) → Covers later set ↔ (Covers sets set × AreTouching groups set term other)) → TouchSoFar groups terms others start (place + 1) later
touch_turn groups terms others start sets later place term other rows within is other_is so_far step =
    rw (take-item terms place term within is, take-item others place other (omega (arith, rows, within)) other_is) (λ set. (
      (λ covers.
          let parts = (step set).0 covers in
          let before = (so_far set).0 parts.0 in
          (before.0, zip_append (AreTouching groups set) (take place terms) (term ∷ []) (take place others) (other ∷ []) before.1 (parts.1, tt))),
      (λ (covers, row).
          let parts = zip_split (AreTouching groups set) (take place terms) (term ∷ []) (take place others) (other ∷ [])
          (same_take terms others place rows) row in
          (step set).1 ((so_far set).1 (covers, parts.0), parts.1.0)),
    ))

pub touch_over : (groups : List Group) (terms others : List Term) (start sets : List (List Bool)) (place : ℕ) → length terms ≡ length others
    → length terms ≤ place → TouchSoFar groups terms others start place sets
    → (set : List Bool) → Covers sets set ↔ (Covers start set × AllZip (AreTouching groups set) terms others)
touch_over groups terms others start sets place rows past so_far =
    subst (λ it. (set : List Bool) → Covers sets set ↔ (Covers start set × AllZip (AreTouching groups set) it others)) (take_all place terms past)
    (subst (λ it. (set : List Bool) → Covers sets set ↔ (Covers start set × AllZip (AreTouching groups set) (take place terms) it))
    (take_all place others (omega (arith, rows, past))) so_far)
