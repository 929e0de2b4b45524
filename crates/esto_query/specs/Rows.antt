-- The rows of a body.
use Rattle.std.specs.Prelude.{◌≡◌, ◌⊎◌, ℕ, Bool, true, false, List, IsSome, map, Contains}
use Rattle.std.specs.FinMap.{get}
use Rattle.esto_term.specs.declared.term.Term.{Term}
use Rattle.esto_term.specs.declared.term.Term.TheVariants.{Const, Plain}
use Rattle.esto_semantics.specs.Facts.{Mentions}
use Rattle.esto_semantics.specs.Maps.{IsConstant, Keeps, Sends}
use Rattle.esto_semantics.specs.declared.fact.Fact.{Fact}
use Rattle.esto_semantics.specs.Valuations.{Assignment, Extends}
pub use Rattle.esto_table.specs.Rows.{row_cmp, IsAscending, Adds}

-- The row is the head's image under a map that keeps constants, extends the known valuation and sends the body to facts.
abbrev pub IsRow : List Term → List (Fact Term) → List (Fact Term) → Assignment → List Term → Type 0
IsRow head body facts known row =
    (m : Term → Term) × Keeps Const m × Extends m known × Sends m body facts × (row ≡ map m head)

-- The term is a constant, or a variable that is known or in the body.
abbrev pub IsKnown : List (Fact Term) → Assignment → Term → Type 0
IsKnown body known term =
    IsConstant term ⊎ ((variable : ℕ) × (term ≡ Plain variable) × (IsSome (get known variable) ⊎ Mentions body term))

-- Each term of the head is so.
abbrev pub AreKnown : List Term → List (Fact Term) → Assignment → Type 0
AreKnown head body known = (term : Term) → Contains head term → IsKnown body known term

-- Whether a map that keeps constants, extends the known valuation and sends the body to facts is there.
abbrev pub Decides : List (Fact Term) → List (Fact Term) → Assignment → Bool → Type 0
Decides body facts known true = (m : Term → Term) × Keeps Const m × Extends m known × Sends m body facts
Decides body facts known false = (m : Term → Term) → Keeps Const m → Extends m known → ¬ (Sends m body facts)
