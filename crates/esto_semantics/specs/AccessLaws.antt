-- Laws of executable sets, accessible parts and stated orders.
use Rattle.std.specs.Prelude.{◌≡◌, ◌↔◌, ℕ, Bool, false, List, length, replicate}
use Rattle.esto_term.specs.declared.term.Term.{Term}
use Rattle.esto_term.specs.Sets.{Within, IsMinimal, numbers, united}
use Rattle.esto_semantics.specs.Access.{Patterns, AreOpen, IsExecutable, IsAccessiblePart, IsStatedOrder, HoldsExecutably, HoldsOfPart}
use Rattle.esto_semantics.specs.Queries.{ConjunctiveQuery, IsAnswer}
use Rattle.esto_semantics.specs.Rules.{Rule}
use Rattle.esto_semantics.specs.Containment.{IsEquivalent}
use Rattle.esto_semantics.specs.Views.{IsFragmentAnswer}
use Rattle.esto_semantics.specs.Listed.{HasCandidate, IsSafe, IsRewriting, candidate}
use Rattle.esto_semantics.specs.declared.fact.Fact.{Fact}

-- The set of no atoms is executable.
abbrev pub NoneIsExecutable : Type 0
NoneIsExecutable = (patterns : Patterns) (atoms : List (Fact Term)) → IsExecutable patterns atoms (replicate (length atoms) false)

-- The union of two executable sets is executable.
abbrev pub UnionIsExecutable : Type 0
UnionIsExecutable =
    (patterns : Patterns) (atoms : List (Fact Term)) (set other : List Bool)
    → IsExecutable patterns atoms set → IsExecutable patterns atoms other → IsExecutable patterns atoms (united set other)

-- Every set has an accessible part.
abbrev pub PartExists : Type 0
PartExists =
    (patterns : Patterns) (atoms : List (Fact Term)) (set : List Bool) → (part : List Bool) × IsAccessiblePart patterns atoms set part

-- A set has one accessible part.
abbrev pub PartIsOne : Type 0
PartIsOne =
    (patterns : Patterns) (atoms : List (Fact Term)) (set part other : List Bool)
    → IsAccessiblePart patterns atoms set part → IsAccessiblePart patterns atoms set other → part ≡ other

-- A set is executable exactly where it is its own accessible part.
abbrev pub ExecutableIsOwnPart : Type 0
ExecutableIsOwnPart =
    (patterns : Patterns) (atoms : List (Fact Term)) (set : List Bool)
    → IsExecutable patterns atoms set ↔ IsAccessiblePart patterns atoms set set

-- The accessible part of a subset is a subset of the accessible part.
abbrev pub PartRises : Type 0
PartRises =
    (patterns : Patterns) (atoms : List (Fact Term)) (set other part part_of_other : List Bool)
    → Within set other → IsAccessiblePart patterns atoms set part → IsAccessiblePart patterns atoms other part_of_other → Within part part_of_other

-- Every executable set has a stated order.
abbrev pub StatedOrderExists : Type 0
StatedOrderExists =
    (patterns : Patterns) (atoms : List (Fact Term)) (set : List Bool)
    → IsExecutable patterns atoms set → (order : List ℕ) × IsStatedOrder patterns atoms set order

-- A set has one stated order.
abbrev pub StatedOrderIsOne : Type 0
StatedOrderIsOne =
    (patterns : Patterns) (atoms : List (Fact Term)) (set : List Bool) (order other : List ℕ)
    → IsStatedOrder patterns atoms set order → IsStatedOrder patterns atoms set other → order ≡ other

-- Where each of the atoms has a pattern without inputs, the stated order of any set of the atoms is the rising list of its numbers, so it is executable.
abbrev pub NumbersAreStated : Type 0
NumbersAreStated =
    (patterns : Patterns) (atoms : List (Fact Term)) → AreOpen patterns atoms
    → (set : List Bool) → length set ≡ length atoms → IsStatedOrder patterns atoms set (numbers set)

-- Where each of the plan's atoms has a pattern without inputs, a set whose candidate is safe and equivalent to the query is a rewriting.
abbrev pub RewritingsNeedNoOrder : Type 0
RewritingsNeedNoOrder =
    (patterns : Patterns) (rules : List Rule) (views : List ConjunctiveQuery) (query plan : ConjunctiveQuery) → AreOpen patterns plan.body
    → (set : List Bool) → HasCandidate plan set → IsSafe plan set
    → IsEquivalent rules (IsFragmentAnswer views (candidate plan set)) (IsAnswer query) → IsRewriting rules views patterns query plan set

-- The minimal executable sets that P holds of are the minimal sets of whose accessible part P holds.
abbrev pub MinimalOfParts : Patterns → List (Fact Term) → (List Bool → Type 0) → Type 0
MinimalOfParts patterns atoms P =
    (set : List Bool) → IsMinimal (HoldsExecutably patterns atoms P) set ↔ IsMinimal (HoldsOfPart patterns atoms P) set
