-- How a set of numbers below a count is kept in 64-bit words: number n is bit n % 64 of word n / 64.
use Rattle.std.specs.Prelude.{◌≡◌, ◌==◌, ℕ, ◌+◌, ◌*◌, ◌/◌, ◌%◌, ◌<◌, ◌≤◌, max, Bool, List, length, map, slice_index_or, slice_range, bit_and, bit_or}
use Rattle.std.specs.Int.{bit_at}
use Rattle.std.specs.List.{range_with_len}

-- The bit of a number.
abbrev pub bit_of : List ℕ → ℕ → ℕ
bit_of words number = bit_at (slice_index_or words (number / 64) 0) (number % 64)

-- The set that the words keep has the numbers below the count whose bit is 1.
abbrev pub set_of : List ℕ → ℕ → List Bool
set_of words count = map (λ number. bit_of words number == 1) (range_with_len 0 count)

-- How many words a set of numbers below a count has: at least one.
abbrev pub words_for : ℕ → ℕ
words_for count = max 1 ((count + 63) / 64)

-- The words reach up to the count, and beyond it no bit is 1.
abbrev pub AreWordsBelow : List ℕ → ℕ → Type 0
AreWordsBelow words count = (length words ≡ words_for count) × ((number : ℕ) → count ≤ number → bit_of words number ≡ 0)

-- The words of the set at a place, where equally many words of each set stand one behind the other.
abbrev pub words_at : List ℕ → ℕ → ℕ → List ℕ
words_at words count place = slice_range words (place * words_for count) (place * words_for count + words_for count)

-- The sets that the words keep, so many of them.
abbrev pub sets_of : List ℕ → ℕ → ℕ → List (List Bool)
sets_of words count many = map (λ place. set_of (words_at words count place) count) (range_with_len 0 many)

-- The words are those of so many sets of numbers below the count.
pub record ArePacked (words : List ℕ) (count many : ℕ) : Type 0 where
  pub whole : length words ≡ many * words_for count
  pub below : (place : ℕ) → place < many → AreWordsBelow (words_at words count place) count

-- No word has a bit that the other word at its place lacks.
abbrev pub LackNoBit : List ℕ → List ℕ → Type 0
LackNoBit words others = (place : ℕ) → bit_and (slice_index_or words place 0) (slice_index_or others place 0) ≡ slice_index_or words place 0

-- The word at the place has no bit that the other word at its place lacks.
abbrev pub LacksNone : List ℕ → List ℕ → ℕ → Type 0
LacksNone words others place = bit_and (slice_index_or words place 0) (slice_index_or others place 0) ≡ slice_index_or words place 0

-- No word from a place on has a bit that the other word at its place lacks.
abbrev pub LackNoneFrom : List ℕ → List ℕ → ℕ → Type 0
LackNoneFrom words others from = (place : ℕ) → from ≤ place → LacksNone words others place

-- Some group of so many words, from a multiple of this number on, has no bit that the row lacks.
abbrev pub SomeWithin : List ℕ → ℕ → List ℕ → Type 0
SomeWithin rows width row =
    (group : ℕ) × (group * width + width ≤ length rows) × LackNoBit (slice_range rows (group * width) (group * width + width)) row

-- Some group of so many words, from a multiple of this number on, lacks none of the bits that the row has.
abbrev pub SomeAround : List ℕ → ℕ → List ℕ → Type 0
SomeAround rows width row =
    (group : ℕ) × (group * width + width ≤ length rows) × LackNoBit row (slice_range rows (group * width) (group * width + width))

-- The word at the place has no bit that this word lacks.
abbrev pub IsWordWithin : List ℕ → ℕ → ℕ → Type 0
IsWordWithin words word place = bit_and (slice_index_or words place 0) word ≡ slice_index_or words place 0

-- The word at the place has each bit that this word has.
abbrev pub IsWordAround : List ℕ → ℕ → ℕ → Type 0
IsWordAround words word place = bit_and word (slice_index_or words place 0) ≡ word

-- P holds of some place of the words from one on.
abbrev pub SomePlaceFrom : ℕ → List ℕ → (ℕ → Type 0) → Type 0
SomePlaceFrom from words P = (place : ℕ) × (from ≤ place) × (place < length words) × P place

-- P holds of one of the eight places from one on.
abbrev pub OneOfEight : ℕ → (ℕ → Type 0) → Type 0
OneOfEight at P = (lane : ℕ) × (lane < 8) × P (at + lane)

-- Each joined word has the bits of the two words at its place, and no other.
abbrev pub HaveBitsOf : List ℕ → List ℕ → List ℕ → Type 0
HaveBitsOf joined words others = (place : ℕ) → slice_index_or joined place 0 ≡ bit_or (slice_index_or words place 0) (slice_index_or others place 0)
