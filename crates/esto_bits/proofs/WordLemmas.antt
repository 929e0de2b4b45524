-- Sets of numbers as words: which bits the words of a set have, and what a change of the words does to the set.
use Rattle.std.proofs.Common.{◌≡◌, ◌≢◌, ◌↔◌, ◌⊎◌, ℕ, ◌+◌, ◌*◌, ◌/◌, ◌%◌, ◌^◌, ◌<◌, ◌≤◌, min, max, Bool, true, false, ◌==◌, List, length, set, slice_index_or}
use Rattle.std.proofs.Common.{replicate, IsTrue, sym, ap, ◌∙◌, subst, inl, inr, arith, bit_and, bit_or, w64}
use Rattle.std.specs.Int.{bit_at}
use Rattle.std.proofs.lemmas.Bool.{cases_lt}
use Rattle.std.proofs.lemmas.Bool.Decides.{nat_tests}
use Rattle.std.proofs.lemmas.Grind.{get_or_default_zero}
use Rattle.std.proofs.lemmas.List.{get_or_past, get_or-set_same, get_or-set_other, get_or-replicate, length-set, length-replicate}
use Rattle.std.proofs.lemmas.List.FromFn.{length-map-range_with_len, get_or-map-range_with_len}
use Rattle.std.proofs.lemmas.Nat.{and_le_l}
use Rattle.std.proofs.lemmas.Nat.Bits.{bit_at-lt, bit_at-zero, bit_at_and, bit_at_or, shr_and_one, bit_at_set_same, bit_at_set_other, same_from_bits_below}
use Rattle.esto_term.specs.Sets.{Has, Within, united}
use Rattle.esto_bits.specs.Words.{bit_of, set_of, words_for, AreWordsBelow, LackNoBit, HaveBitsOf}
use Rattle.esto_term.proofs.SetLemmas.{has_united, length-united, within_same, Has-within, none_has}
use Rattle.esto_bits.proofs.SetLemmas.{Has-set}

-- the words keep the set: they are words below its count, and it is the set that they keep
pub record Keep (words : List ℕ) (count : ℕ) (row : List Bool) : Type 0 where
  pub below : AreWordsBelow words count
  pub is : set_of words count ≡ row

-- a bit of a word is the bit of a number
pub bit_of-place : (words : List ℕ) (place low : ℕ) → low < 64 → bit_of words (64 * place + low) ≡ bit_at (slice_index_or words place 0) low
bit_of-place words place low small =
    let word_of : (64 * place + low) / 64 ≡ place = omega arith in
    let bit_in : (64 * place + low) % 64 ≡ low = omega arith in
    ap (λ q. bit_at (slice_index_or words q 0) ((64 * place + low) % 64)) word_of ∙ ap (bit_at (slice_index_or words place 0)) bit_in

-- ---- the numbers of the set are those whose bit is 1

test-one : (n : ℕ) → n == 1 ≡ true → n ≡ 1
test-one n passes = grind (arith, nat_tests)

one-test : (n : ℕ) → n ≡ 1 → n == 1 ≡ true
one-test n is = grind (arith, nat_tests)

pub length-set_of : (words : List ℕ) (count : ℕ) → length (set_of words count) ≡ count
length-set_of words count = length-map-range_with_len (λ number. bit_of words number == 1) 0 count

set_of-at : (words : List ℕ) (count number : ℕ) → number < count → slice_index_or (set_of words count) number false ≡ (bit_of words number == 1)
set_of-at words count number small = get_or-map-range_with_len (λ n. bit_of words n == 1) 0 count number number false small (omega arith)

Has-set_of : (words : List ℕ) (count number : ℕ) → AreWordsBelow words count → Has (set_of words count) number ↔ (bit_of words number ≡ 1)
Has-set_of words count number below = (there, back)
  where
    there : Has (set_of words count) number → bit_of words number ≡ 1
    there has =
        let small : number < count = subst (λ n. number < n) (length-set_of words count) (Has-within (set_of words count) number has) in
        test-one (bit_of words number) (sym (set_of-at words count number small) ∙ has)

    back : bit_of words number ≡ 1 → Has (set_of words count) number
    back one = elim (cases_lt number count) [
      | inl small ↦ set_of-at words count number small ∙ one-test (bit_of words number) one
      | inr beyond ↦ absurd (omega (arith, below.1 number beyond))
    ]

module _ (words : List ℕ) (count : ℕ) (row : List Bool) (keep : Keep words count row) where
  pub count_is : count ≡ length row
  count_is = sym (length-set_of words count) ∙ ap length keep.is

  pub Has-bit : (number : ℕ) → Has row number ↔ (bit_of words number ≡ 1)
  Has-bit number = subst (λ set. Has set number ↔ (bit_of words number ≡ 1)) keep.is (Has-set_of words count number keep.below)

  -- the words reach the word of each number below the count
  pub word_within : (number : ℕ) → number < length row → number / 64 < length words
  word_within number small = omega (arith, keep.below.0, count_is)

  -- to read a word is to read it at the default 0
  word_is : (number word : ℕ) → number < length row → word ≡ slice_index_or words (number / 64) word → word ≡ slice_index_or words (number / 64) 0
  word_is number word small is = is ∙ get_or_default_zero words (number / 64) word (word_within number small)

  -- the bit that the code reads says whether the set has the number
  pub bit_read : (number word : ℕ) → number < length row → word ≡ slice_index_or words (number / 64) word
      → IsTrue (bit_and (word / 2 ^ (number % 64)) 1 == 1) ↔ Has row number
  bit_read number word small is =
      let read : bit_and (word / 2 ^ (number % 64)) 1 ≡ bit_of words number =
      shr_and_one word (number % 64) ∙ ap (λ w. bit_at w (number % 64)) (word_is number word small is) in
      (λ passes. (Has-bit number).1 (sym read ∙ test-one _ passes), λ has. one-test _ (read ∙ (Has-bit number).0 has))

-- two sets of one count are equal where they have the same numbers: words keep each set that has just the numbers whose bit is 1
keep_from : (words : List ℕ) (count : ℕ) (row : List Bool) → AreWordsBelow words count → count ≡ length row
    → ((number : ℕ) → Has row number ↔ (bit_of words number ≡ 1)) → Keep words count row
keep_from words count row below counts has = record {
  below = below;
  is = within_same (set_of words count) row (length-set_of words count ∙ counts)
      (λ number h. (has number).1 ((Has-set_of words count number below).0 h))
      (λ number h. (Has-set_of words count number below).1 ((has number).0 h));
}

-- ---- the empty set

bit_of-empty : (many number : ℕ) → bit_of (replicate many 0) number ≡ 0
bit_of-empty many number = ap (λ word. bit_at word (number % 64)) (word (number / 64)) ∙ bit_at-zero (number % 64)
  where
    word : (place : ℕ) → ◌≡◌ {A = ℕ} (slice_index_or (replicate many 0) place 0) 0
    word place = elim (cases_lt place many) [
      | inl within ↦ get_or-replicate many place 0 0 within
      | inr beyond ↦ get_or_past (replicate many 0) place 0 (subst (λ n. n ≤ place) (sym (length-replicate many 0)) beyond)
    ]

pub keep-empty : (many count : ℕ) → many ≡ words_for count → Keep (replicate many 0) count (replicate count false)
keep-empty many count enough =
    keep_from (replicate many 0) count (replicate count false) (length-replicate many 0 ∙ enough, λ number beyond. bit_of-empty many number)
    (sym (length-replicate count false))
    (λ number. (λ has. absurd (none_has count number has), λ one. absurd (omega (arith, one, bit_of-empty many number))))

-- ---- one number more

module _ (words : List ℕ) (count : ℕ) (row : List Bool) (keep : Keep words count row) (added word : ℕ) (small : added < length row)
    (is : word ≡ slice_index_or words (added / 64) word) where
  -- the words with the bit of the added number
  abbrev changed : List ℕ
  changed = set words (added / 64) (bit_or word (1 * 2 ^ (added % 64) % 2 ^ 64))

  reaches : added / 64 < length words
  reaches = word_within words count row keep added small

  bit_of-added : bit_of changed added ≡ 1
  bit_of-added = ap (λ w. bit_at w (added % 64)) (get_or-set_same words (added / 64) _ 0 reaches) ∙ bit_at_set_same w64 word (added % 64) (omega arith)

  -- in another word nothing changes
  bit_of-far : (number : ℕ) → number / 64 ≢ added / 64 → bit_of changed number ≡ bit_of words number
  bit_of-far number far = ap (λ w. bit_at w (number % 64)) (get_or-set_other words (added / 64) (number / 64) _ 0 far)

  -- in the same word the other bits stay
  bit_of-near : (number : ℕ) → number / 64 ≡ added / 64 → number ≢ added → bit_of changed number ≡ bit_of words number
  bit_of-near number same differs =
      ap (λ place. bit_at (slice_index_or changed place 0) (number % 64)) same
      ∙ ap (λ w. bit_at w (number % 64)) (get_or-set_same words (added / 64) _ 0 reaches)
      ∙ bit_at_set_other w64 word (added % 64) (omega arith) (number % 64) (λ equal. differs (omega arith))
      ∙ ap (λ w. bit_at w (number % 64)) (word_is words count row keep added word small is)
      ∙ ap (λ place. bit_at (slice_index_or words place 0) (number % 64)) (sym same)

  bit_of-other : (number : ℕ) → number ≢ added → bit_of changed number ≡ bit_of words number
  bit_of-other number differs = elim (cases_lt (number / 64) (added / 64)) [
    | inl less ↦ bit_of-far number (omega arith)
    | inr above ↦ elim (cases_lt (added / 64) (number / 64))
        [ inl more ↦ bit_of-far number (omega arith) | inr same ↦ bit_of-near number (omega arith) differs ]
  ]

  bit_of-changed : (number : ℕ) → ((number ≡ added) ⊎ (bit_of words number ≡ 1)) ↔ (bit_of changed number ≡ 1)
  bit_of-changed number = elim (cases_lt number added) [
    | inl less ↦ apart (omega arith)
    | inr above ↦ elim (cases_lt added number) [ inl more ↦ apart (omega arith) | inr same ↦ together (omega arith) ]
  ]
    where
      apart : number ≢ added → ((number ≡ added) ⊎ (bit_of words number ≡ 1)) ↔ (bit_of changed number ≡ 1)
      apart differs = (
        λ either. elim either [ inl same ↦ absurd (differs same) | inr one ↦ bit_of-other number differs ∙ one ],
        λ one. inr (sym (bit_of-other number differs) ∙ one),
      )

      together : number ≡ added → ((number ≡ added) ⊎ (bit_of words number ≡ 1)) ↔ (bit_of changed number ≡ 1)
      together same = (λ either. ap (bit_of changed) same ∙ bit_of-added, λ one. inl same)

  pub keep-changed : Keep changed count (set row added true)
  keep-changed =
      keep_from changed count (set row added true) (
        length-set words (added / 64) _ ∙ keep.below.0,
        λ number beyond. bit_of-other number (omega (arith, count_is words count row keep)) ∙ keep.below.1 number beyond,
      )
      (count_is words count row keep ∙ sym (length-set row added true))
      (λ number. (
        λ has. (bit_of-changed number).0
            (elim ((Has-set row added number small).0 has) [ inl same ↦ inl same | inr had ↦ inr ((Has-bit words count row keep number).0 had) ]),
        λ one. (Has-set row added number small).1
            (elim ((bit_of-changed number).1 one) [ inl same ↦ inl same | inr had ↦ inr ((Has-bit words count row keep number).1 had) ]),
      ))

-- ---- two sets of one count

module _ (words : List ℕ) (count : ℕ) (row : List Bool) (keep : Keep words count row) (words' : List ℕ) (count' : ℕ) (row' : List Bool)
    (keep' : Keep words' count' row') (counts : length row ≡ length row') where
  -- sets of one count have equally many words
  pub same_length : length words ≡ length words'
  same_length = omega (arith, keep.below.0, keep'.below.0, count_is words count row keep, count_is words' count' row' keep')

  pub within_from_words : LackNoBit words words' → Within row row'
  within_from_words lack number has =
      let one : bit_of words number ≡ 1 = (Has-bit words count row keep number).0 has in
      let both : min (bit_of words number) (bit_of words' number) ≡ bit_of words number =
      sym (bit_at_and (slice_index_or words (number / 64) 0) (slice_index_or words' (number / 64) 0) (number % 64))
      ∙ ap (λ w. bit_at w (number % 64)) (lack (number / 64)) in
      (Has-bit words' count' row' keep' number).1 (omega (arith, one, both, bit_at-lt (slice_index_or words' (number / 64) 0) (number % 64)))

  pub words_from_within : ((place : ℕ) → slice_index_or words place 0 < 2 ^ 64) → Within row row' → LackNoBit words words'
  words_from_within fits within place =
      same_from_bits_below 64 _ _ (lower (and_le_l (slice_index_or words place 0) (slice_index_or words' place 0)) (fits place)) (fits place)
      (λ low small. bit_at_and (slice_index_or words place 0) (slice_index_or words' place 0) low ∙ bits low small)
    where
      lower : {a b c : ℕ} → a ≤ b → b < c → a < c
      lower less small = omega (arith, less, small)

      follows : (low : ℕ) → low < 64 → bit_at (slice_index_or words place 0) low ≡ 1 → bit_at (slice_index_or words' place 0) low ≡ 1
      follows low small one =
          sym (bit_of-place words' place low small)
          ∙ (Has-bit words' count' row' keep' (64 * place + low)).0
          (within (64 * place + low) ((Has-bit words count row keep (64 * place + low)).1 (bit_of-place words place low small ∙ one)))

      bits : (low : ℕ) → low < 64 → min (bit_at (slice_index_or words place 0) low) (bit_at (slice_index_or words' place 0) low) ≡ bit_at
          (slice_index_or words place 0) low
      bits low small = elim (cases_lt (bit_at (slice_index_or words place 0) low) 1) [
        | inl none ↦ omega arith
        | inr some ↦
            omega (arith, follows low small (omega (arith, bit_at-lt (slice_index_or words place 0) low)), bit_at-lt (slice_index_or words place 0) low)
      ]

  -- an answer about words that are read as slices says whether the set is a subset
  pub within_says : (slice slice' : List ℕ) → slice ≡ words → slice' ≡ words' → ((place : ℕ) → slice_index_or slice place 0 < 2 ^ 64)
      → (answer : Bool) → IsTrue answer ↔ LackNoBit slice slice' → IsTrue answer ↔ Within row row'
  within_says slice slice' is is' fits answer says =
      let lack : IsTrue answer ↔ LackNoBit words words' =
      subst (λ given. IsTrue answer ↔ LackNoBit given words') is (subst (λ given. IsTrue answer ↔ LackNoBit slice given) is' says) in
      let all_fit : (place : ℕ) → slice_index_or words place 0 < 2 ^ 64 = subst (λ given. (place : ℕ) → slice_index_or given place 0 < 2 ^ 64) is fits in
      (λ is_true. within_from_words (lack.0 is_true), λ within. lack.1 (words_from_within all_fit within))

  -- words that have the bits of both keep the union
  module _ (joined slice' : List ℕ) (is' : slice' ≡ words') (many : length joined ≡ length words) (given : HaveBitsOf joined words slice') where
    bits : HaveBitsOf joined words words'
    bits = subst (HaveBitsOf joined words) is' given

    bit_of-joined : (number : ℕ) → bit_of joined number ≡ max (bit_of words number) (bit_of words' number)
    bit_of-joined number =
        ap (λ w. bit_at w (number % 64)) (bits (number / 64))
        ∙ bit_at_or (slice_index_or words (number / 64) 0) (slice_index_or words' (number / 64) 0) (number % 64)

    either_bit : (number : ℕ) → ((bit_of words number ≡ 1) ⊎ (bit_of words' number ≡ 1)) ↔ (bit_of joined number ≡ 1)
    either_bit number =
        let low : bit_of words number < 2 = bit_at-lt (slice_index_or words (number / 64) 0) (number % 64) in
        let low' : bit_of words' number < 2 = bit_at-lt (slice_index_or words' (number / 64) 0) (number % 64) in
        let most = bit_of-joined number in (
          λ either. elim either [ inl one ↦ omega arith | inr one ↦ omega arith ],
          λ one. elim (cases_lt (bit_of words number) 1) [ inl none ↦ inr (omega arith) | inr some ↦ inl (omega arith) ],
        )

    beyond_none : (number : ℕ) → count ≤ number → bit_of joined number ≡ 0
    beyond_none number beyond =
        let none : bit_of words number ≡ 0 = keep.below.1 number beyond in
        let none' : bit_of words' number ≡ 0 = keep'.below.1 number (omega (arith, count_is words count row keep, count_is words' count' row' keep')) in
        bit_of-joined number ∙ omega (arith, none, none')

    pub keep-joined : Keep joined count (united row row')
    keep-joined =
        keep_from joined count (united row row') (many ∙ keep.below.0, beyond_none) (count_is words count row keep ∙ sym (length-united row row' counts))
        (λ number. (
          λ has. (either_bit number).0 (elim
              ((has_united row row' number).0 has)
              [ inl had ↦ inl ((Has-bit words count row keep number).0 had) | inr had ↦ inr ((Has-bit words' count' row' keep' number).0 had) ]),
          λ one. (has_united row row' number).1
              (elim ((either_bit number).1 one)
              [ inl had ↦ inl ((Has-bit words count row keep number).1 had) | inr had ↦ inr ((Has-bit words' count' row' keep' number).1 had) ]),
        ))
