-- The kinds of terms that the field speaks of.
use Rattle.std.specs.Prelude.{◌≡◌, ◌⊎◌, ℕ, List}
use Rattle.esto_term.specs.declared.term.Term.{Term}
use Rattle.esto_term.specs.declared.term.Term.TheVariants.{Const, Plain}

-- The term is a constant.
abbrev pub IsConstant : Term → Type 0
IsConstant term = (text : List ℕ) × (term ≡ Const text)

-- The term is a variable.
abbrev pub IsVariable : Term → Type 0
IsVariable term = (number : ℕ) × (term ≡ Plain number)

-- The term is a constant or a variable, and no made term.
abbrev pub IsFlat : Term → Type 0
IsFlat term = IsConstant term ⊎ IsVariable term
