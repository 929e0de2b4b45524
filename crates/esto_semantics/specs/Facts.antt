-- Facts, databases, and what a map makes of them.
use Rattle.std.specs.Prelude.{List, map, Contains}
use Rattle.std.specs.List.{flat_map}
use Rattle.esto_semantics.specs.declared.fact.Fact.{Fact}
use Rattle.esto_semantics.specs.declared.fact.Value.{Value}

-- A database is a finite list of facts over values, read as a set: only what it contains counts.
abbrev pub Database : Type 0
Database = List (Fact Value)

-- The image of a fact under a map has the same relation over the images of its terms.
abbrev pub image : {V W : Type 0} → (V → W) → Fact V → Fact W
image m fact = record { relation = fact.relation; terms = map m fact.terms }

-- The facts mention a thing that stands in one of them.
abbrev pub Mentions : {V : Type 0} → List (Fact V) → V → Type 0
Mentions {V} facts thing = (fact : Fact V) × Contains facts fact × Contains fact.terms thing

-- What stands in the facts, in order.
abbrev pub terms_of : {V : Type 0} → List (Fact V) → List V
terms_of {V} facts = flat_map (λ (fact : Fact V). fact.terms) facts
