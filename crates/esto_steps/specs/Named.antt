-- Codes that sources name.
use Rattle.std.specs.Prelude.{◌≡◌, ℕ, ◌<◌, Bool, true, false, List, Some, map}
use Rattle.esto_steps.specs.declared.steps.Source.{Source}
use Rattle.esto_steps.specs.declared.steps.Source.TheVariants.{Code, Cell}
use Rattle.esto_steps.specs.Meaning.{code_at}

-- The sources name the codes in the cells, one each.
abbrev pub NamesCodes : List ℕ → List Source → List ℕ → Type 0
NamesCodes cells sources codes = map (code_at cells) sources ≡ map Some codes

-- The answer tells whether each of the sources names a code in the cells; where each does, these are the codes.
abbrev pub Names : List ℕ → List Source → List ℕ → Bool → Type 0
Names cells sources codes true = NamesCodes cells sources codes
Names cells sources codes false = ¬ ((others : List ℕ) × NamesCodes cells sources others)

-- The source is a code, or one of the first cells, so many.
abbrev pub IsEarly : ℕ → Source → Type 0
IsEarly width (Code code) = Unit {0}
IsEarly width (Cell place) = place < width
