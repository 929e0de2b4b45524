-- What a body and a head may be made of.
use Rattle.std.specs.Prelude.{◌≡◌, ◌⊎◌, ℕ, ◌<◌, List, Contains}
use Rattle.esto_term.specs.declared.term.Term.{Term}
use Rattle.esto_term.specs.declared.term.Term.TheVariants.{Plain}
use Rattle.esto_semantics.specs.Maps.{IsConstant}
use Rattle.esto_semantics.specs.declared.fact.Fact.{Fact}

-- The term is a constant, or a variable whose number is below the count.
abbrev pub IsFit : ℕ → Term → Type 0
IsFit variables term = IsConstant term ⊎ ((variable : ℕ) × (variable < variables) × (term ≡ Plain variable))

-- Each of the terms is.
abbrev pub AreFit : ℕ → List Term → Type 0
AreFit variables terms = (term : Term) → Contains terms term → IsFit variables term

-- The atom is over a relation below the count, and each of its terms is such a term.
abbrev pub IsFitAtom : ℕ → ℕ → Fact Term → Type 0
IsFitAtom relations variables atom = (atom.relation < relations) × AreFit variables atom.terms

-- Each of the atoms is.
abbrev pub AreFitAtoms : ℕ → ℕ → List (Fact Term) → Type 0
AreFitAtoms relations variables atoms = (atom : Fact Term) → Contains atoms atom → IsFitAtom relations variables atom
