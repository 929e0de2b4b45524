-- When a rule is made.
use Rattle.std.specs.Prelude.{◌≡◌, ◌⊎◌, ℕ, ◌<◌, ◌≤◌, ◌+◌, ◌^◌, ◌++◌, List, length, Result, Ok, Err}
use Rattle.esto_term.specs.declared.term.Term.{Term}
use Rattle.esto_term.specs.declared.term.Term.TheVariants.{Plain}
use Rattle.esto_semantics.specs.Facts.{Mentions}
use Rattle.esto_semantics.specs.Maps.{IsFixedBy}
use Rattle.esto_semantics.specs.WellFormed.{AreOver}
use Rattle.esto_semantics.specs.declared.fact.Fact.{Fact}
use Rattle.esto_query.specs.Making.{IsFirstMisfit}
use Rattle.esto_query.specs.declared.query.Name.{Name}
use Rattle.esto_query.specs.declared.make.TheConstants.{MAX_ATOMS}
use Rattle.esto_query.specs.declared.make.QueryFault.{QueryFault}
use Rattle.esto_query.specs.declared.make.QueryFault.TheVariants.{Unsafe, Arity, TooLarge, OutOfMemory}
use Rattle.esto_constraint.specs.declared.rule.Constraint.{Constraint}
use Rattle.esto_constraint.specs.declared.rule.Constraint.TheVariants.{Tuple, Equal, Never}

-- The number is that of the body's atoms where they are too many, else that of the head's atoms, which are then too many.
abbrev pub IsFirstTooLarge : List (Fact Term) → List (Fact Term) → ℕ → Type 0
IsFirstTooLarge body head atoms =
    (MAX_ATOMS < atoms) × ((atoms ≡ length body) ⊎ ((length body ≤ MAX_ATOMS) × (atoms ≡ length head)))

-- What comes of making a tuple rule: the rule, where each atom has the right number of terms and neither body nor head has too many atoms; else the first of
-- these that fails, where the body's atoms are counted before the head's. Memory is wanting only where a place of an atom passes every number of a machine.
abbrev pub MakesTuple : List ℕ → List (Fact Term) → List (Fact Term) → List Name → Result Constraint QueryFault → Type 0
MakesTuple schema body head names (Ok (Tuple rule)) =
    AreOver schema (body ++ head) × (length body ≤ MAX_ATOMS) × (length head ≤ MAX_ATOMS) × (rule.body ≡ body) × (rule.head ≡ head) × (rule.names ≡ names)
MakesTuple schema body head names (Ok (Equal rule)) = ⊥
MakesTuple schema body head names (Ok (Never rule)) = ⊥
MakesTuple schema body head names (Err (Arity place)) = IsFirstMisfit schema (body ++ head) place
MakesTuple schema body head names (Err (TooLarge atoms)) = AreOver schema (body ++ head) × IsFirstTooLarge body head atoms
MakesTuple schema body head names (Err (Unsafe variable)) = ⊥
MakesTuple schema body head names (Err OutOfMemory) = 2 ^ 64 ≤ length body + length head

-- The variable is the left side and not in the body; or the left side is a constant or in the body, and the variable is the right side and not in the body.
abbrev pub IsFirstUnsafe : Term → Term → List (Fact Term) → ℕ → Type 0
IsFirstUnsafe left right body variable =
    ¬ (Mentions body (Plain variable)) × ((left ≡ Plain variable) ⊎ (IsFixedBy body left × (right ≡ Plain variable)))

-- The fault is the body's first: the first atom with a wrong number of terms, else the number of atoms, which are too many.
abbrev pub IsBodyFault : List ℕ → List (Fact Term) → QueryFault → Type 0
IsBodyFault schema body (Arity place) = IsFirstMisfit schema body place
IsBodyFault schema body (TooLarge atoms) = AreOver schema body × (atoms ≡ length body) × (MAX_ATOMS < atoms)
IsBodyFault schema body (Unsafe variable) = ⊥
IsBodyFault schema body OutOfMemory = ⊥

-- What comes of making an equality rule: the rule, where each atom has the right number of terms, there are not too many atoms and each side is a constant or
-- in the body; else the first of these that fails. Memory is never wanting.
abbrev pub MakesEquality : List ℕ → List (Fact Term) → Term → Term → List Name → Result Constraint QueryFault → Type 0
MakesEquality schema body left right names (Ok (Tuple rule)) = ⊥
MakesEquality schema body left right names (Ok (Equal rule)) =
    AreOver schema body × (length body ≤ MAX_ATOMS) × IsFixedBy body left × IsFixedBy body right
    × (rule.body ≡ body) × (rule.left ≡ left) × (rule.right ≡ right) × (rule.names ≡ names)
MakesEquality schema body left right names (Ok (Never rule)) = ⊥
MakesEquality schema body left right names (Err (Arity place)) = IsBodyFault schema body (Arity place)
MakesEquality schema body left right names (Err (TooLarge atoms)) = IsBodyFault schema body (TooLarge atoms)
MakesEquality schema body left right names (Err (Unsafe variable)) =
    AreOver schema body × (length body ≤ MAX_ATOMS) × IsFirstUnsafe left right body variable
MakesEquality schema body left right names (Err OutOfMemory) = ⊥

-- What comes of making a denial: the denial, where each atom has the right number of terms and there are not too many atoms; else the first of these that
-- fails. It has no head, so nothing is unsafe, and memory is never wanting.
abbrev pub MakesDenial : List ℕ → List (Fact Term) → List Name → Result Constraint QueryFault → Type 0
MakesDenial schema body names (Ok (Tuple rule)) = ⊥
MakesDenial schema body names (Ok (Equal rule)) = ⊥
MakesDenial schema body names (Ok (Never rule)) =
    AreOver schema body × (length body ≤ MAX_ATOMS) × (rule.body ≡ body) × (rule.names ≡ names)
MakesDenial schema body names (Err fault) = IsBodyFault schema body fault
