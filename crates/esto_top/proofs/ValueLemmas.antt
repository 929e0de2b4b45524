-- The number that digits write.
use Rattle.std.proofs.Common.{◌≡◌, ◌<◌, ◌≤◌, ◌+◌, ◌-◌, ◌*◌, ℕ, zero, suc, true, false, Bool, List, ◌∷◌, drop, length, get_or, refl, sym, ap, ◌∙◌, arith}
use Rattle.std.proofs.lemmas.Bool.Decides.{nat_tests}
use Rattle.std.specs.List.{list_all}
use Rattle.std.proofs.lemmas.List.{get_or_default}
use Rattle.std.proofs.lemmas.List.Folds.{list_all_at}
use Rattle.esto_term.proofs.PlaceLemmas.{drop-item}
use Rattle.esto_top.specs.Grammar.{is_digit, value_after}

-- the power of ten
abbrev pub tens : ℕ → ℕ
tens zero = 1
tens (suc n) = 10 * tens n

tens_le : (n m : ℕ) → n ≤ m → tens n ≤ tens m
tens_le zero zero le = omega arith
tens_le zero (suc m) le = let rest = tens_le zero m (omega arith) in omega (arith, rest)
tens_le (suc n) zero le = absurd (omega (arith, le))
tens_le (suc n) (suc m) le = let rest = tens_le n m (omega (arith, le)) in omega (arith, rest)

pub one_more : (n : ℕ) → tens (n + 1) ≡ 10 * tens n
one_more n = let on : n + 1 ≡ suc n = omega arith in ap tens on

-- a digit's byte
digit_byte : (byte : ℕ) → is_digit byte ≡ true → (48 ≤ byte) × (byte ≤ 57)
digit_byte byte is = grind (arith, nat_tests, is)

module _ (digits : List ℕ) (index digit : ℕ) (below : index < length digits) (is : digit ≡ get_or digits index digit) where
  pub digit_at : list_all is_digit digits ≡ true → (48 ≤ digit) × (digit ≤ 57)
  digit_at all = digit_byte digit (decide (is_digit digit) refl)
    where
      decide : (test : Bool) → is_digit digit ≡ test → is_digit digit ≡ true
      decide true test = test
      decide false test =
          let none : list_all is_digit digits ≡ false = list_all_at is_digit digits index digit below (ap is_digit (sym is) ∙ test) in
          let h : true ≡ false = sym all ∙ none in absurd (cc)

  left : drop index digits ≡ digit ∷ drop (index + 1) digits
  left = drop-item digits index digit below is

  -- one digit more
  pub value_more : (value next whole : ℕ) → next ≡ value * 10 + (digit - 48) → value_after value (drop index digits) ≡ whole
      → value_after next (drop (index + 1) digits) ≡ whole
  value_more value next whole grown before =
      ap (λ (it : ℕ). value_after it (drop (index + 1) digits)) grown ∙ sym (ap (value_after value) left) ∙ before

pub below_more : (value index digit next : ℕ) → value < tens index → digit ≤ 57 → next ≡ value * 10 + (digit - 48) → next < tens (index + 1)
below_more value index digit next less le grown = omega (arith, less, le, grown, one_more index)

-- nine digits stay far below what a word holds
pub stays_low : (value index : ℕ) → value < tens index → index < 9 → value < 100_000_000
stays_low value index less low = omega (arith, less, tens_le index 8 (omega (arith, low)))

-- a digit read off the list with a number in reserve is the one read off it with itself
pub number_itself : (digits : List ℕ) (index : ℕ) → index < length digits → get_or digits index 0 ≡ get_or digits index (get_or digits index 0)
number_itself digits index below = get_or_default digits index 0 (get_or digits index 0) below
