-- Parts of which a rule can be made.
use Rattle.std.specs.Prelude.{ℕ, ◌≤◌, List, length}
use Rattle.esto_constraint.specs.Soundness.{IsSoundTuple, IsSoundEquality, IsSoundDenial}
use Rattle.esto_query.specs.declared.make.TheConstants.{MAX_ATOMS}
use Rattle.esto_query.specs.declared.query.Name.{Name}
use Rattle.esto_semantics.specs.Rules.{tuple, equality, denial}
use Rattle.esto_semantics.specs.WellFormed.{IsRuleOver}
use Rattle.esto_semantics.specs.declared.fact.Fact.{Fact}
use Rattle.esto_term.specs.declared.term.Term.{Term}

-- Body and head are those of a tuple rule over the schema, and neither has too many atoms.
pub record AreTupleParts (schema : List ℕ) (body head : List (Fact Term)) (names : List Name) : Type 0 where
  pub sound : IsSoundTuple body head names
  pub over : IsRuleOver schema (tuple body head)
  pub body_size : length body ≤ MAX_ATOMS
  pub head_size : length head ≤ MAX_ATOMS

-- Body and sides are those of an equality rule over the schema, and the body has not too many atoms.
pub record AreEqualityParts (schema : List ℕ) (body : List (Fact Term)) (left right : Term) (names : List Name) : Type 0 where
  pub sound : IsSoundEquality body left right names
  pub over : IsRuleOver schema (equality body left right)
  pub size : length body ≤ MAX_ATOMS

-- The body is that of a denial over the schema, and has not too many atoms.
pub record AreDenialParts (schema : List ℕ) (body : List (Fact Term)) (names : List Name) : Type 0 where
  pub sound : IsSoundDenial body names
  pub over : IsRuleOver schema (denial body)
  pub size : length body ≤ MAX_ATOMS
