-- Pages of 64 sets: bits of their first words, by which most sets that don't fit are passed over.
use Rattle.std.specs.Prelude.{◌≡◌, ℕ, ◌+◌, ◌*◌, ◌<◌, ◌≤◌, List, length, slice_index_or, slice_range, bit_and}
use Rattle.esto_bits.specs.Words.{ArePacked, LackNoBit, words_for}
use Rattle.esto_bits.specs.declared.pages.Page.{Page}

-- The word has each bit of the page's `all`, and none that its `any` lacks.
abbrev pub IsOnPage : Page → ℕ → Type 0
IsOnPage page word = (bit_and page.all word ≡ page.all) × (bit_and word page.any ≡ word)

-- The first word of each of the 64 groups at the place is on the page, where a group has so many words.
abbrev pub IsPageOf : List ℕ → ℕ → ℕ → Page → Type 0
IsPageOf rows width place page = (group : ℕ) → place * 64 ≤ group → group < place * 64 + 64 → IsOnPage page (slice_index_or rows (group * width) 0)

-- The pages are those of the first groups of so many words.
pub record ArePagesOf (rows : List ℕ) (width : ℕ) (pages : List Page) : Type 0 where
  pub whole : length pages * 64 * width ≤ length rows
  pub each : (place : ℕ) (other : Page) → place < length pages → IsPageOf rows width place (slice_index_or pages place other)

-- The words are those of so many sets of numbers below the count, and the pages are those of the first of them.
pub record ArePaged (words : List ℕ) (count many : ℕ) (pages : List Page) : Type 0 where
  pub packed : ArePacked words count many
  pub noted : ArePagesOf words (words_for count) pages

-- P holds of one of the 64 groups at the place.
abbrev pub SomeOnPage : List ℕ → ℕ → ℕ → (List ℕ → Type 0) → Type 0
SomeOnPage rows width place P =
    (group : ℕ) × (place * 64 ≤ group) × (group < place * 64 + 64) × P (slice_range rows (group * width) (group * width + width))

-- No word of the group has a bit that the row lacks.
abbrev pub HasWithin : List ℕ → List ℕ → Type 0
HasWithin row part = LackNoBit part row

-- No word of the row has a bit that the group lacks.
abbrev pub HasAround : List ℕ → List ℕ → Type 0
HasAround row part = LackNoBit row part
