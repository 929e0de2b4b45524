-- A set has as many numbers as its words have bits that are 1.
use Rattle.std.proofs.Common.{◌≡◌, ◌≢◌, ℕ, zero, suc, ◌+◌, ◌*◌, ◌/◌, ◌%◌, ◌^◌, ◌<◌, ◌≤◌, Bool, true, false, List, [], ◌∷◌, length, drop, slice_index_or}
use Rattle.std.proofs.Common.{count_ones, sum_by, take, get_or, min, add_comm, refl, sym, ap, ◌∙◌, inl, inr, arith}
use Rattle.std.proofs.Math.ListN.{drop_of_length-le}
use Rattle.std.proofs.lemmas.Bool.{cases_lt}
use Rattle.std.proofs.lemmas.List.Sums.{sum_by-drop_more, sum_by_more}
use Rattle.std.proofs.lemmas.Nat.{div-add-mod', ones_cat, ones_le_self, shr-shr, zero_from_ones}
use Rattle.std.proofs.lemmas.Nat.Bits.{bit_at-lt}
use Rattle.std.specs.Int.{bit_at}
use Rattle.esto_term.specs.Sets.{numbers, numbers_from}
use Rattle.esto_bits.specs.Words.{bit_of}
use Rattle.esto_bits.proofs.NumberLemmas.{later_numbers, later_numbers-has, later_numbers-lacks, later_numbers-end}
use Rattle.esto_bits.proofs.SetLemmas.{false-not_true}
use Rattle.esto_bits.proofs.WordLemmas.{Keep, Has-bit, count_is, bit_of-place}

-- ---- the bits of a word

one_bit : (bit : ℕ) → bit < 2 → count_ones bit ≡ bit
one_bit zero low = omega (arith, ones_le_self 0)
one_bit (suc zero) low = elim (cases_lt (count_ones 1) 1) [
  | inl none ↦ let wrong : ◌≡◌ {A = ℕ} 1 0 = zero_from_ones 1 (omega (arith, none)) in absurd (omega (arith, wrong))
  | inr some ↦ omega (arith, ones_le_self 1)
]
one_bit (suc (suc more)) low = absurd (omega (arith, low))

-- the bits of a word from a place on are the one there and those after it
ones_from : (word place : ℕ) → count_ones (word / 2 ^ place) ≡ bit_at word place + count_ones (word / 2 ^ (place + 1))
ones_from word place =
    let split : (word / 2 ^ place) / 2 * 2 ^ 1 + word / 2 ^ place % 2 ≡ word / 2 ^ place = div-add-mod' (word / 2 ^ place) 2 in
    let low : bit_at word place < 2 = bit_at-lt word place in
    let halved : (word / 2 ^ place) / 2 ≡ word / 2 ^ (place + 1) = shr-shr word place 1 in
    sym (ap count_ones split) ∙ ones_cat 1 ((word / 2 ^ place) / 2) (word / 2 ^ place % 2) low
    ∙ add_comm (count_ones ((word / 2 ^ place) / 2)) (count_ones (word / 2 ^ place % 2))
    ∙ ap (λ n. n + count_ones ((word / 2 ^ place) / 2)) (one_bit (word / 2 ^ place % 2) low)
    ∙ ap (λ n. bit_at word place + count_ones n) halved

-- ---- the numbers of a set

-- a set of a count has no more numbers than that
few_from : (from : ℕ) (set : List Bool) → length (numbers_from from set) ≤ length set
few_from from [] = omega arith
few_from from (true ∷ rest) = omega (arith, few_from (from + 1) rest)
few_from from (false ∷ rest) = omega (arith, few_from (from + 1) rest)

pub few : (set : List Bool) → length (numbers set) ≤ length set
few = few_from 0

module _ (words : List ℕ) (count : ℕ) (row : List Bool) (keep : Keep words count row) where
  -- the numbers from one on are that one, where its bit is 1, and those after it
  numbers_from-bit : (number : ℕ) → length (later_numbers number row) ≡ bit_of words number + length (later_numbers (number + 1) row)
  numbers_from-bit number = go (slice_index_or row number false) refl
    where
      go : (is_in : Bool) → slice_index_or row number false ≡ is_in
          → length (later_numbers number row) ≡ bit_of words number + length (later_numbers (number + 1) row)
      go true is =
          let one : bit_of words number ≡ 1 = (Has-bit words count row keep number).0 is in
          omega (arith, ap length (later_numbers-has row number is), one)
      go false is =
          let low : bit_of words number < 2 = bit_at-lt (slice_index_or words (number / 64) 0) (number % 64) in
          let none : bit_of words number ≢ 1 = (λ one. false-not_true (sym is ∙ (Has-bit words count row keep number).1 one)) in
          omega (arith, ap length (later_numbers-lacks row number is), low, none)

  -- the numbers that a word's bits from a place on stand for, and those of the later words
  word_rest : (place word : ℕ) → word ≡ slice_index_or words place 0 → word < 2 ^ 64 → (left low : ℕ) → low + left ≡ 64
      → length (later_numbers (64 * place + low) row) ≡ count_ones (word / 2 ^ low) + length (later_numbers (64 * place + 64) row)
  word_rest place word is fits zero low all =
      let end : low ≡ 64 = omega arith in
      let none : word / 2 ^ low ≡ 0 = ap (λ n. word / 2 ^ n) end ∙ div_small in
      ap (λ n. length (later_numbers (64 * place + n) row)) end
      ∙ omega (arith, ap count_ones none, one_bit 0 (omega arith))
    where
      div_small : word / 2 ^ 64 ≡ 0
      div_small = omega (arith, fits)
  word_rest place word is fits (suc left) low all =
      let small : low < 64 = omega arith in
      let here : bit_of words (64 * place + low) ≡ bit_at word low = bit_of-place words place low small ∙ ap (λ w. bit_at w low) (sym is) in
      let next = word_rest place word is fits left (low + 1) (omega arith) in
      let after : 64 * place + low + 1 ≡ 64 * place + (low + 1) = omega arith in
      omega (arith, numbers_from-bit (64 * place + low), here, ap (λ n. length (later_numbers n row)) after, next, ones_from word low)

  -- the numbers from a word on
  words_rest : ((place : ℕ) → slice_index_or words place 0 < 2 ^ 64) → (left place : ℕ) → place + left ≡ length words
      → length (later_numbers (64 * place) row) ≡ sum_by count_ones (drop place words)
  words_rest fits zero place all =
      let none : drop place words ≡ [] = drop_of_length-le words (omega arith) in
      ap length (later_numbers-end row (64 * place) (omega (arith, keep.below.0, count_is words count row keep))) ∙ sym (ap (sum_by count_ones) none)
  words_rest fits (suc left) place all =
      let small : place < length words = omega arith in
      let next : 64 * place + 64 ≡ 64 * (place + 1) = omega arith in
      let whole : slice_index_or words place 0 / 2 ^ 0 ≡ slice_index_or words place 0 = omega arith in
      let start : 64 * place + 0 ≡ 64 * place = omega arith in
      ap (λ n. length (later_numbers n row)) (sym start)
      ∙ word_rest place (slice_index_or words place 0) refl (fits place) 64 0 refl
      ∙ ap (λ n. count_ones n + length (later_numbers (64 * place + 64) row)) whole
      ∙ ap (λ n. count_ones (slice_index_or words place 0) + length (later_numbers n row)) next
      ∙ ap (λ n. count_ones (slice_index_or words place 0) + n) (words_rest fits left (place + 1) (omega arith))
      ∙ sym (sum_by-drop_more count_ones words place 0 small)

  pub size_is : ((place : ℕ) → slice_index_or words place 0 < 2 ^ 64) → sum_by count_ones words ≡ length (numbers row)
  size_is fits = sym (words_rest fits (length words) 0 (omega arith))

-- ---- the bits of the words so far, or the greatest number where there are more, and those of one word more

pub bits_more : (words : List ℕ) (place now new most : ℕ) → place < length words → now ≡ min (sum_by count_ones (take place words)) most
    → new ≡ min (now + count_ones (get_or words place 0)) most → new ≡ min (sum_by count_ones (take (place + 1) words)) most
bits_more words place now new most within so_far grows = omega (arith, sum_by_more count_ones words place 0 within)
