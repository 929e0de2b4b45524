-- What a size of the made case writes.
use Rattle.std.proofs.Common.{◌≡◌, ◌<◌, ◌≤◌, ℕ, true, false, List, [], ◌∷◌, length, refl, arith}
use Rattle.std.specs.Prelude.{◌&&◌}
use Rattle.std.proofs.lemmas.Bool.{and_from}
use Rattle.std.proofs.lemmas.Bool.Decides.{nat_tests}
use Rattle.std.specs.List.{list_all}
use Rattle.esto_top.specs.Grammar.{is_digit, is_leading_digit, is_made_size, value_of}

leading : (byte : ℕ) → is_leading_digit byte ≡ true → (49 ≤ byte) × (byte ≤ 57)
leading byte is = grind (arith, nat_tests, is)

two_digits : (first second : ℕ) → is_made_size (first ∷ second ∷ []) ≡ true → (first ≡ 49) × (48 ≤ second) × (second ≤ 52)
two_digits first second is = grind (arith, nat_tests, is)

digit_of : (byte : ℕ) → 48 ≤ byte → byte ≤ 57 → is_digit byte ≡ true
digit_of byte least most = grind (arith, nat_tests, least, most)

-- it is one or two digits, which write 1 to 14
pub sized : (word : List ℕ) → is_made_size word ≡ true
    → (list_all is_digit word ≡ true) × (length word ≤ 9) × (0 < value_of word) × (value_of word ≤ 14)
sized [] is = let none : false ≡ true = is in absurd (cc)
sized (digit ∷ []) is =
    let byte = leading digit is in (
      and_from (is_digit digit) true (digit_of digit (omega (arith, byte.0)) byte.1) refl,
      omega arith,
      omega (arith, byte.0, byte.1),
      omega (arith, byte.0, byte.1),
    )
sized (first ∷ second ∷ []) is =
    let bytes = two_digits first second is in (
      and_from (is_digit first) (is_digit second && true) (digit_of first (omega (arith, bytes.0)) (omega (arith, bytes.0)))
          (and_from (is_digit second) true (digit_of second bytes.1 (omega (arith, bytes.2))) refl),
      omega arith,
      omega (arith, bytes.0, bytes.1, bytes.2),
      omega (arith, bytes.0, bytes.1, bytes.2),
    )
sized (first ∷ second ∷ third ∷ rest) is = let none : false ≡ true = is in absurd (cc)
