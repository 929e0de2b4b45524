-- Terms that named equalities link, and a way to decide which they are.
use Rattle.std.specs.Prelude.{◌≡◌, ◌↔◌, List, [], ◌∷◌, Contains}
use Rattle.esto_term.specs.Order.{replaced}
use Rattle.esto_term.specs.declared.term.Term.{Term}
use Rattle.esto_semantics.specs.declared.fact.Fact.{Fact}
use Rattle.esto_chase_laws.specs.Worlds.{Linked}
use Rattle.esto_chase_laws.specs.declared.entry.Claim.{Claim}
use Rattle.esto_chase_laws.specs.declared.entry.Claim.TheVariants.{Fact as Stated, Same}
use Rattle.esto_cert.specs.declared.linking.Equality.{Equality}

-- The claim is one of these facts, or one of these equalities.
abbrev pub IsAmong : List (Fact Term) → List Equality → Claim → Type 0
IsAmong facts equalities (Stated fact) = Contains facts fact
IsAmong facts equalities (Same left right) = Contains equalities (record { left = left; right = right })

-- The term that stands for a term: each equality in turn puts its right side for its left one.
abbrev pub standing : List Equality → Term → Term
standing [] term = term
standing (first ∷ rest) term = standing rest (replaced first.left first.right term)

-- Two terms are linked exactly where one term stands for both.
abbrev pub Tells : List Equality → (Claim → Type 0) → Type 0
Tells renamings Holds = (term other : Term) → Linked Holds term other ↔ (standing renamings term ≡ standing renamings other)

-- One term stands for both.
abbrev pub StandsAsOne : List Equality → Term → Term → Type 0
StandsAsOne renamings term other = standing renamings term ≡ standing renamings other
