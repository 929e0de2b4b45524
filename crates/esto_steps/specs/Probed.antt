-- Places of rows that meet links.
use Rattle.std.specs.Prelude.{◌≡◌, ℕ, List, Some, slice_get, Contains}
use Rattle.esto_steps.specs.declared.steps.Link.{Link}
use Rattle.esto_steps.specs.Meaning.{IsMet}

-- Among the places are those of all rows that meet the link, whose source is in the cells.
abbrev pub HaveMet : List ℕ → List (List ℕ) → Link → List ℕ → Type 0
HaveMet cells rows link places = (place : ℕ) (row : List ℕ) → slice_get rows place ≡ Some row → IsMet cells row link → Contains places place

-- Among the places are those of all rows that meet each of the links, whose sources are in the cells.
abbrev pub HaveAllMet : List ℕ → List (List ℕ) → List Link → List ℕ → Type 0
HaveAllMet cells rows links places =
    (place : ℕ) (row : List ℕ) → slice_get rows place ≡ Some row → ((link : Link) → Contains links link → IsMet cells row link) → Contains places place
