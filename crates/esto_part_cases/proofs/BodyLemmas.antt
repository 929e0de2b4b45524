-- What fits gives what makers ask for.
use Rattle.std.proofs.Common.{◌≡◌, ℕ, ◌<◌, List, length, All, sym, subst, inl, inr}
use Rattle.std.proofs.lemmas.List.Elements.{Contains-get_or}
use Rattle.esto_term.specs.declared.term.Term.{Term}
use Rattle.esto_term.specs.declared.term.Term.TheVariants.{Plain}
use Rattle.esto_semantics.proofs.TermLemmas.{Const-apart-Plain, Plain-same}
use Rattle.esto_semantics.specs.Maps.{IsFlat, AreFlat}
use Rattle.esto_semantics.specs.declared.fact.Fact.{Fact}
use Rattle.esto_query.specs.Soundness.{AreNamed}
use Rattle.esto_query.specs.declared.query.Name.{Name}
use Rattle.esto_part_cases.specs.Bodies.{IsFit, AreFitAtoms}

-- a term that fits is a constant or a variable
pub fit-flat : (variables : ℕ) (term : Term) → IsFit variables term → IsFlat term
fit-flat variables term (inl constant) = inl constant
fit-flat variables term (inr found) = inr (found.0, found.2)

-- a variable that fits is below the count
pub fit-below : (variables variable : ℕ) → IsFit variables (Plain variable) → variable < variables
fit-below variables variable (inl constant) = absurd (Const-apart-Plain constant.0 variable (sym constant.1))
fit-below variables variable (inr found) = subst (λ number. number < variables) (sym (Plain-same variable found.0 found.2)) found.1

module _ (relations variables : ℕ) (body : List (Fact Term)) (fit : AreFitAtoms relations variables body) where
  -- each relation is below the count
  pub atoms-over : All (λ atom. atom.relation < relations) body
  atoms-over place default within = (fit _ (Contains-get_or body place default within)).0

  -- each term of the atoms is a constant or a variable
  pub atoms-flat : AreFlat body
  atoms-flat term mentioned = fit-flat variables term ((fit mentioned.0 mentioned.1).1 term mentioned.2)

  -- each variable has a name
  pub atoms-named : (names : List Name) → length names ≡ variables → AreNamed names body
  atoms-named names count variable mentioned =
      subst (λ bound. variable < bound) (sym count) (fit-below variables variable ((fit mentioned.0 mentioned.1).1 (Plain variable) mentioned.2))
