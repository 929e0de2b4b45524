-- The numbers of a set with one number more, and the test for subsets.
use Rattle.std.proofs.Common.{◌≡◌, ◌≢◌, ◌↔◌, ◌⊎◌, ℕ, zero, suc, ◌+◌, ◌<◌, Bool, true, false, not, ◌&&◌, ◌||◌, List, [], ◌∷◌, ◌++◌, length, get_or, set, take}
use Rattle.std.proofs.Common.{Contains, slice_index_or, IsTrue, refl, sym, ap, ◌∙◌, subst, inl, inr, arith}
use Rattle.std.proofs.lemmas.Bool.{cases_lt}
use mathlib.Core.Bool.{beq}
use Rattle.std.proofs.lemmas.List.{get_or-set_same, get_or-set_other, take_more}
use Rattle.std.proofs.lemmas.List.Elements.{Contains-append_left, Contains-push, Contains-push_cases}
use Rattle.esto_term.specs.Sets.{Has, Within}
use Rattle.esto_term.proofs.ChoiceLemmas.{same_truth}
use Rattle.esto_bits.specs.Kept.{is_within}

-- ---- truth values

pub false-not_true : false ≡ true → ⊥
false-not_true e = cc

-- of two truth values that differ the other is false where the one is true, and true where it is false
pub other_false : (one other : Bool) → not (beq one other) ≡ true → one ≡ true → other ≡ false
other_false true true differ is = sym differ
other_false true false differ is = refl
other_false false other differ is = absurd (false-not_true is)

pub other_true : (one other : Bool) → not (beq one other) ≡ true → one ≡ false → other ≡ true
other_true true other differ is = absurd (false-not_true (sym is))
other_true false true differ is = refl
other_true false false differ is = differ

pub same_answers : (one other : Bool) → not (beq one other) ≡ false → one ≡ other
same_answers true true alike = refl
same_answers true false alike = absurd (false-not_true (sym alike))
same_answers false true alike = absurd (false-not_true (sym alike))
same_answers false false alike = refl

both-first : (one other : Bool) → one && other ≡ true → one ≡ true
both-first true other e = refl
both-first false other e = e

both-second : (one other : Bool) → one && other ≡ true → other ≡ true
both-second true other e = e
both-second false other e = absurd (false-not_true e)

-- ---- the numbers of a set

-- what says whether a set has a number is the set's own answer
pub answer_is : (row : List Bool) (number : ℕ) (answer : Bool) → IsTrue answer ↔ Has row number → answer ≡ slice_index_or row number false
answer_is row number answer says = same_truth answer (slice_index_or row number false) says.0 says.1

-- with one number more a set has that number, and all that it had
pub Has-set : (row : List Bool) (added number : ℕ) → added < length row → Has (set row added true) number ↔ ((number ≡ added) ⊎ Has row number)
Has-set row added number within = (there, back)
  where
    other : number ≢ added → slice_index_or (set row added true) number false ≡ slice_index_or row number false
    other differs = get_or-set_other row added number true false differs

    there : Has (set row added true) number → (number ≡ added) ⊎ Has row number
    there has = elim (cases_lt number added) [
      | inl less ↦ inr (sym (other (omega arith)) ∙ has)
      | inr above ↦ elim (cases_lt added number) [ inl more ↦ inr (sym (other (omega arith)) ∙ has) | inr same ↦ inl (omega arith) ]
    ]

    same_number : number ≡ added → Has (set row added true) number
    same_number same = subst (Has (set row added true)) (sym same) (get_or-set_same row added true false within)

    back : (number ≡ added) ⊎ Has row number → Has (set row added true) number
    back (inl same) = same_number same
    back (inr has) = elim (cases_lt number added) [
      | inl less ↦ other (omega arith) ∙ has
      | inr above ↦ elim (cases_lt added number) [ inl more ↦ other (omega arith) ∙ has | inr same ↦ same_number (omega arith) ]
    ]

-- ---- the test for subsets

pub Within-from_test : (one other : List Bool) → is_within one other ≡ true → Within one other
Within-from_test [] other passes number has = absurd (false-not_true has)
Within-from_test (true ∷ rest) [] passes number has = absurd (false-not_true passes)
Within-from_test (false ∷ rest) [] passes zero has = has
Within-from_test (false ∷ rest) [] passes (suc number) has = Within-from_test rest [] passes number has
Within-from_test (true ∷ rest) (in_other ∷ others) passes zero has = both-first in_other (is_within rest others) passes
Within-from_test (false ∷ rest) (in_other ∷ others) passes zero has = absurd (false-not_true has)
Within-from_test (is_in ∷ rest) (in_other ∷ others) passes (suc number) has =
    Within-from_test rest others (both-second (not is_in || in_other) (is_within rest others) passes) number has

pub test_from_Within : (one other : List Bool) → Within one other → is_within one other ≡ true
test_from_Within [] other within = refl
test_from_Within (true ∷ rest) [] within = absurd (false-not_true (within 0 refl))
test_from_Within (false ∷ rest) [] within = test_from_Within rest [] (λ number has. within (suc number) has)
test_from_Within (true ∷ rest) (in_other ∷ others) within =
    ap (λ first. first && is_within rest others) (within 0 refl) ∙ test_from_Within rest others (λ number has. within (suc number) has)
test_from_Within (false ∷ rest) (in_other ∷ others) within = test_from_Within rest others (λ number has. within (suc number) has)

-- an answer that says whether the one set is a subset of the other is the test's
pub test_is : (one other : List Bool) (answer : Bool) → IsTrue answer ↔ Within one other → answer ≡ is_within one other
test_is one other answer says =
    same_truth answer (is_within one other) (λ yes. test_from_Within one other (says.0 yes)) (λ passes. says.1 (Within-from_test one other passes))

-- ---- numbers that are put into a set, one by one

pub inserted_more : (start before after : List Bool) (numbers : List ℕ) (count : ℕ) → count < length numbers
    → ((number : ℕ) → Has after number ↔ ((number ≡ get_or numbers count 0) ⊎ Has before number))
    → ((number : ℕ) → Has before number ↔ (Contains (take count numbers) number ⊎ Has start number)) → (number : ℕ)
    → Has after number ↔ (Contains (take (count + 1) numbers) number ⊎ Has start number)
inserted_more start before after numbers count below now so_far number =
    let here = get_or numbers count 0 in
    let more : take (count + 1) numbers ≡ take count numbers ++ here ∷ [] = take_more numbers count 0 below in (
      λ has. elim ((now number).0 has) [
        | inl same ↦ inl (subst (λ them. Contains them number) (sym more)
            (subst (Contains (take count numbers ++ here ∷ [])) (sym same) (Contains-push (take count numbers) here)))
        | inr old ↦ elim ((so_far number).0 old) [
          | inl earlier ↦ inl (subst (λ them. Contains them number) (sym more) (Contains-append_left (take count numbers) (here ∷ []) number earlier))
          | inr first ↦ inr first
        ]
      ],
      λ has. (now number).1 (elim has [
        | inl among ↦ elim (Contains-push_cases (take count numbers) here number (subst (λ them. Contains them number) more among)) [
          | inl earlier ↦ inr ((so_far number).1 (inl earlier))
          | inr same ↦ inl (sym same)
        ]
        | inr first ↦ inr ((so_far number).1 (inr first))
      ]),
    )
