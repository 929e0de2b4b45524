-- Steps of the walks over items that may be wanting.
use Rattle.std.proofs.Common.{◌≡◌, ◌≢◌, ◌&&◌, ℕ, ◌+◌, ◌-◌, ◌*◌, ◌≤◌, nat_le, Bool, true, false, if◌then◌else◌, length, List, [], ◌∷◌, ◌++◌}
use Rattle.std.proofs.Common.{Option, Some, None, option_map, refl, sym, ap, ◌∙◌, subst, arith}
use Rattle.std.proofs.lemmas.Bool.Decides.{nat_tests}
use Rattle.std.proofs.Common.{◌<◌, drop, get_or}
use Rattle.std.proofs.lemmas.List.{append_assoc, append-nil, drop_all}
use Rattle.esto_term.proofs.PlaceLemmas.{drop-item}
use Rattle.esto_term.specs.Nesting.{greatest_u64}
use Rattle.esto_term.proofs.ListLemmas.{after}
use Rattle.esto_cert.specs.Lines.{number_after, with_item, line_of_words}
use Rattle.esto_cert.specs.Reading.{capped, within, list_within, line_within}

pub after_nothing : {A : Type 0} (rest : Option (List A)) → after [] rest ≡ rest
after_nothing None = refl
after_nothing (Some rest) = refl

-- one more item is done
pub after_one : {A : Type 0} (done : List A) (item : A) (rest : Option (List A)) → after (done ++ item ∷ []) rest ≡ after done (with_item (Some item) rest)
after_one done item None = refl
after_one done item (Some rest) = ap Some (append_assoc done (item ∷ []) rest)

-- a walk over items of which each gives one, unless it is wanting
module _ {X A : Type 0} (items : List X) (of : List X → Option (List A)) (item : X → Option A) (none : of [] ≡ Some [])
    (more : (thing : X) (rest : List X) → of (thing ∷ rest) ≡ with_item (item thing) (of rest)) where
  left_is : (place : ℕ) (thing : X) (done : List A) → place < length items → thing ≡ get_or items place thing
      → after done (with_item (item thing) (of (drop (place + 1) items))) ≡ after done (of (drop place items))
  left_is place thing done within is =
      ap (after done) (sym (more thing (drop (place + 1) items))) ∙ ap (λ it. after done (of it)) (sym (drop-item items place thing within is))

  pub walk_turn : (place : ℕ) (thing : X) (one : A) (done later : List A) → place < length items → thing ≡ get_or items place thing → item thing ≡ Some one
      → later ≡ done ++ one ∷ [] → after done (of (drop place items)) ≡ of items → after later (of (drop (place + 1) items)) ≡ of items
  walk_turn place thing one done later within is told later_is so_far =
      ap (λ it. after it (of (drop (place + 1) items))) later_is ∙ after_one done one (of (drop (place + 1) items))
      ∙ ap (λ it. after done (with_item it (of (drop (place + 1) items)))) (sym told) ∙ left_is place thing done within is ∙ so_far

  pub walk_wanting : (place : ℕ) (thing : X) (done : List A) → place < length items → thing ≡ get_or items place thing → item thing ≡ None
      → after done (of (drop place items)) ≡ of items → None ≡ of items
  walk_wanting place thing done within is told so_far =
      ap (λ it. after done (with_item it (of (drop (place + 1) items)))) (sym told) ∙ left_is place thing done within is ∙ so_far

  pub walk_end : (place : ℕ) (done : List A) → length items ≤ place → after done (of (drop place items)) ≡ of items → Some done ≡ of items
  walk_end place done past so_far =
      ap Some (sym (append-nil done)) ∙ ap (after done) (sym none) ∙ ap (λ it. after done (of it)) (sym (drop_all place items past)) ∙ so_far

-- a number more is within 64 bits where it is and the others are
pub within_more : (number : Option ℕ) (numbers : Option (List ℕ)) → list_within (with_item number numbers) ≡ with_item (within number) (list_within numbers)
within_more None numbers = refl
within_more (Some number) None = nothing (within (Some number))
  where
    nothing : (number : Option ℕ) → None ≡ with_item number None
    nothing None = refl
    nothing (Some number) = refl
within_more (Some number) (Some numbers) = refl

-- words of another number say nothing
pub other_words : (words : List (List ℕ)) → length words ≢ 3 → length words ≢ 5 → None ≡ line_within (line_of_words words)
other_words [] three five = refl
other_words (a ∷ []) three five = refl
other_words (a ∷ b ∷ []) three five = refl
other_words (a ∷ b ∷ c ∷ []) three five = absurd (three refl)
other_words (a ∷ b ∷ c ∷ d ∷ []) three five = refl
other_words (a ∷ b ∷ c ∷ d ∷ e ∷ []) three five = absurd (five refl)
other_words (a ∷ b ∷ c ∷ d ∷ e ∷ f ∷ rest) three five = refl

-- ---- numbers that 64 bits don't hold

-- digits after a number that 64 bits don't hold make one that they don't hold either
capped-capped : (value : ℕ) → capped (capped value) ≡ capped value
capped-capped value = by (nat_le value greatest_u64) refl
  where
    by : (test : Bool) → nat_le value greatest_u64 ≡ test
        → capped (if test then value else 18446744073709551616) ≡ (if test then value else 18446744073709551616)
    by true is = ap (λ (it : Bool). if it then value else 18446744073709551616) is
    by false is = refl

one_digit_capped : (value digit : ℕ) → capped (capped value * 10 + digit) ≡ capped (value * 10 + digit)
one_digit_capped value digit = by (nat_le value greatest_u64) refl
  where
    large : (number : ℕ) → 18446744073709551616 ≤ number → capped number ≡ 18446744073709551616
    large number above = ap (λ (it : Bool). if it then number else 18446744073709551616) (test number above)
      where
        test : (number : ℕ) → 18446744073709551616 ≤ number → nat_le number greatest_u64 ≡ false
        test number above = grind (arith, nat_tests, above)

    past : nat_le value greatest_u64 ≡ false → 18446744073709551616 ≤ value
    past is = grind (arith, nat_tests, is)

    by : (test : Bool) → nat_le value greatest_u64 ≡ test
        → capped ((if test then value else 18446744073709551616) * 10 + digit) ≡ capped (value * 10 + digit)
    by true is = refl
    by false is =
        let above = past is in
        large (18446744073709551616 * 10 + digit) (omega arith) ∙ sym (large (value * 10 + digit) (omega (arith, above)))

number_after-capped : (digits : List ℕ) (value : ℕ) → option_map capped (number_after (capped value) digits) ≡ option_map capped (number_after value digits)
number_after-capped [] value = ap (λ (it : ℕ). Some it) (capped-capped value)
number_after-capped (byte ∷ digits) value = by (nat_le 48 byte && nat_le byte 57) (number_after-capped digits)
  where
    by : (test : Bool) → ((next : ℕ) → option_map capped (number_after (capped next) digits) ≡ option_map capped (number_after next digits))
        → option_map capped (if test then number_after (capped value * 10 + (byte - 48)) digits else None)
        ≡ option_map capped (if test then number_after (value * 10 + (byte - 48)) digits else None)
    by true same =
        sym (same (capped value * 10 + (byte - 48))) ∙ ap (λ (it : ℕ). option_map capped (number_after it digits)) (one_digit_capped value (byte - 48))
        ∙ same (value * 10 + (byte - 48))
    by false same = refl

-- one digit more is read
pub digit_read : (digits rest all : List ℕ) (value digit next : ℕ) → digits ≡ digit ∷ rest → 48 ≤ digit → digit ≤ 57
    → option_map capped (number_after value digits) ≡ option_map capped (number_after 0 all) → next ≡ capped (value * 10 + (digit - 48))
    → (next ≤ 18446744073709551616) × (option_map capped (number_after next rest) ≡ option_map capped (number_after 0 all))
digit_read digits rest all value digit next is from to so_far next_is = (
  subst (λ (it : ℕ). it ≤ 18446744073709551616) (sym next_is) (small (value * 10 + (digit - 48))),
  ap (λ (it : ℕ). option_map capped (number_after it rest)) next_is ∙ number_after-capped rest (value * 10 + (digit - 48))
      ∙ ap (λ (it : Bool). option_map capped (if it then number_after (value * 10 + (digit - 48)) rest else None)) (sym test)
      ∙ ap (λ (it : List ℕ). option_map capped (number_after value it)) (sym is) ∙ so_far,
)
  where
    test : (nat_le 48 digit && nat_le digit 57) ≡ true
    test = grind (arith, nat_tests, from, to)

    small : (number : ℕ) → capped number ≤ 18446744073709551616
    small number = by (nat_le number greatest_u64) refl
      where
        by : (test : Bool) → nat_le number greatest_u64 ≡ test → (if test then number else 18446744073709551616) ≤ 18446744073709551616
        by true is = let at_most : number ≤ greatest_u64 = grind (arith, nat_tests, is) in omega (arith, at_most)
        by false is = omega arith
