-- What is left of the atoms of a plan, atom by atom.
use Rattle.std.specs.Prelude.{◌≡◌, ◌⊎◌, ◌↔◌, ℕ, ◌+◌, List, ◌++◌, map, take, drop}
use Rattle.esto_term.specs.declared.term.Term.{Term}
use Rattle.esto_term.specs.declared.term.Term.TheVariants.{Const}
use Rattle.esto_semantics.specs.Maps.{Keeps}
use Rattle.esto_semantics.specs.declared.fact.Fact.{Fact}
use Rattle.esto_semantics.specs.Valuations.{Assignment, Extends}
use Rattle.esto_semantics.specs.Cores.{Retracts}

-- The maps that keep constants and extend the valuation are exactly those that send each of the terms to itself.
abbrev pub IsFixing : List Term → Assignment → Type 0
IsFixing terms start = (m : Term → Term) → Keeps Const m → Extends m start ↔ (map m terms ≡ terms)

-- The atoms without the one at the place.
abbrev pub without : ℕ → List (Fact Term) → List (Fact Term)
without place atoms = take place atoms ++ drop (place + 1) atoms

-- The new atoms are the old ones without the one at the place, where the old ones retract into those, and else the old ones.
abbrev pub IsDroppedAt : List Term → ℕ → List (Fact Term) → List (Fact Term) → Type 0
IsDroppedAt head place old new =
    (Retracts head old (without place old) × (new ≡ without place old)) ⊎ (¬ (Retracts head old (without place old)) × (new ≡ old))
