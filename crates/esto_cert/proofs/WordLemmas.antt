-- Words of a line: the bytes of numbers, of lists and between spaces.
use Rattle.std.proofs.Common.{◌≡◌, ◌==◌, ◌&&◌, ℕ, ◌+◌, ◌-◌, ◌*◌, ◌<◌, ◌≤◌, nat_le, nat_eq, Bool, true, false, if◌then◌else◌, List, [], ◌∷◌, ◌++◌, length}
use Rattle.std.proofs.Common.{get_or, Some, None, All, codes, refl, ap, ◌∙◌, arith}
use Rattle.std.specs.Cmp.Lexicographic.{pointwise}
use Rattle.std.specs.List.{slice_split}
use Rattle.std.proofs.lemmas.Bool.Decides.{nat_tests}
use Rattle.std.proofs.lemmas.List.Elements.{All-append, All-cons, All-head, All-weaker}
use Rattle.std.proofs.lemmas.List.Splits.{slice_split_at, slice_split_none}
use Rattle.std.proofs.lemmas.Option.{same_Some}
use Rattle.esto_cert.specs.Lines.{number_after, number_of, is_word, line_of_words}

-- ---- numbers

pub one_more : (value digit : ℕ) → digit < 10 → number_after value ((48 + digit) ∷ []) ≡ Some (value * 10 + digit)
one_more value digit is =
    ap (λ (it : Bool). if it then Some (value * 10 + ((48 + digit) - 48)) else None) test ∙ ap (λ (it : ℕ). Some (value * 10 + it)) minus
  where
    minus : (48 + digit) - 48 ≡ digit
    minus = omega arith

    test : (nat_le 48 (48 + digit) && nat_le (48 + digit) 57) ≡ true
    test = grind (arith, nat_tests)

-- one digit more at the end
pub digit_more : (digits : List ℕ) (value number digit : ℕ) → number_after value digits ≡ Some number → digit < 10
    → number_after value (digits ++ (48 + digit) ∷ []) ≡ Some (number * 10 + digit)
digit_more [] value number digit is small =
    let same : value ≡ number = same_Some value number is in
    ap (λ (it : ℕ). number_after it ((48 + digit) ∷ [])) same ∙ one_more number digit small
digit_more (byte ∷ digits) value number digit is small =
    by (nat_le 48 byte && nat_le byte 57) is (λ goes. digit_more digits (value * 10 + (byte - 48)) number digit goes small)
  where
    by : (test : Bool) → (if test then number_after (value * 10 + (byte - 48)) digits else None) ≡ Some number
        → (number_after (value * 10 + (byte - 48)) digits ≡ Some number
        → number_after (value * 10 + (byte - 48)) (digits ++ (48 + digit) ∷ []) ≡ Some (number * 10 + digit))
        → (if test then number_after (value * 10 + (byte - 48)) (digits ++ (48 + digit) ∷ []) else None) ≡ Some (number * 10 + digit)
    by true goes again = again goes
    by false wrong again = cc

pub read_whole : (digits : List ℕ) (number : ℕ) → 0 < length digits → (2 ≤ length digits → 48 < get_or digits 0 0) → number_after 0 digits ≡ Some number
    → number_of digits ≡ Some number
read_whole [] number some first is = absurd (omega (arith, some))
read_whole (byte ∷ []) number some first is = is
read_whole (byte ∷ second ∷ rest) number some first is = ap (λ (it : Bool). if it then None else number_after 0 (byte ∷ second ∷ rest)) (test (first
    (omega arith))) ∙ is
  where
    test : 48 < byte → (byte == 48) ≡ false
    test more = grind (arith, nat_tests)

-- ---- bytes

-- a digit
abbrev pub IsDigit : ℕ → Type 0
IsDigit byte = (48 ≤ byte) × (byte ≤ 57)

-- a digit, a comma or a minus
abbrev pub IsOfList : ℕ → Type 0
IsOfList byte = (44 ≤ byte) × (byte ≤ 57)

pub no_byte : (byte : ℕ) → byte < 48 → (word : List ℕ) → All IsDigit word → All (λ other. (other == byte) ≡ false) word
no_byte byte low = All-weaker IsDigit (λ other. (other == byte) ≡ false) (λ other (from, to). grind (arith, nat_tests))

pub no_space : (word : List ℕ) → All IsOfList word → All (λ byte. (byte == 32) ≡ false) word
no_space = All-weaker IsOfList (λ byte. (byte == 32) ≡ false) (λ byte (from, to). grind (arith, nat_tests))

-- what begins with a digit is no minus
pub no_minus : (digits rest : List ℕ) → 0 < length digits → All IsDigit digits → is_word (digits ++ rest) (codes "-") ≡ false
no_minus [] rest some are = absurd (omega (arith, some))
no_minus (byte ∷ digits) rest some are = ap (λ (it : Bool). it && pointwise nat_eq (digits ++ rest) []) (test (All-head IsDigit byte digits are).0)
  where
    test : 48 ≤ byte → nat_eq byte 45 ≡ false
    test large = grind (arith, nat_tests)

-- ---- between spaces

pub words : (word rest : List ℕ) → All IsOfList word → slice_split (λ byte. byte == 32) (word ++ (codes " " ++ rest))
    ≡ word ∷ slice_split (λ byte. byte == 32) rest
words word rest are = slice_split_at (λ byte. byte == 32) word 32 rest (no_space word are) refl

pub last_word : (word : List ℕ) → All IsOfList word → slice_split (λ byte. byte == 32) word ≡ word ∷ []
last_word word are = slice_split_none (λ byte. byte == 32) word (no_space word are)

pub two_words : (verb first second : List ℕ) → All IsOfList first → All IsOfList second
    → (λ (it : List (List ℕ)). line_of_words (verb ∷ it)) (slice_split (λ byte. byte == 32) (first ++ (codes " " ++ second)))
    ≡ line_of_words (verb ∷ first ∷ second ∷ [])
two_words verb first second are are_too =
    ap (λ (it : List (List ℕ)). line_of_words (verb ∷ it)) (words first second are ∙ ap (λ (it : List (List ℕ)). first ∷ it) (last_word second are_too))

-- ---- no byte below a space

pub above : (word : List ℕ) → All IsOfList word → All (λ byte. 32 ≤ byte) word
above = All-weaker IsOfList (λ byte. 32 ≤ byte) (λ byte (from, to). omega (arith, from))

pub spaced : (word rest : List ℕ) → All IsOfList word → All (λ byte. 32 ≤ byte) rest → All (λ byte. 32 ≤ byte) (word ++ (codes " " ++ rest))
spaced word rest are are_too = All-append (λ byte. 32 ≤ byte) word (codes " " ++ rest) (above word are) (All-cons (λ byte. 32 ≤ byte) 32 rest
    (omega arith) are_too)
