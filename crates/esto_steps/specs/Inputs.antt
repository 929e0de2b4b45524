-- Inputs of a get.
use Rattle.std.specs.Prelude.{◌≡◌, ℕ, List, [], ◌∷◌, true, Contains}
use Rattle.esto_columns.specs.Asked.{holds_all}
use Rattle.esto_columns.specs.declared.fragment.Input.{Input}
use Rattle.esto_steps.specs.declared.steps.Link.{Link}

-- The columns of the links with the codes.
abbrev pub inputs_with : List Link → List ℕ → List Input
inputs_with [] codes = []
inputs_with (link ∷ links) [] = []
inputs_with (link ∷ links) (code ∷ codes) = record { column = link.column; code = code } ∷ inputs_with links codes

-- The rows of the fragment that have the codes of one of the keys as inputs are among those that were asked for.
abbrev pub AreAnswered : List Link → List (List ℕ) → List (List ℕ) → List (List ℕ) → Type 0
AreAnswered links rows keys asked =
    (key row : List ℕ) → Contains keys key → Contains rows row → holds_all (inputs_with links key) row ≡ true → Contains asked row
