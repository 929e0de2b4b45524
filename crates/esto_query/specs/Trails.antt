-- The bindings of a search, and what a step does to the maps that extend them.
use Rattle.std.specs.Prelude.{◌≡◌, ◌↔◌, Bool, true, false, List, ◌++◌, fold}
use Rattle.std.specs.FinMap.{insert}
use Rattle.esto_term.specs.declared.term.Term.{Term}
use Rattle.esto_term.specs.declared.term.Term.TheVariants.{Const}
use Rattle.esto_semantics.specs.Maps.{Keeps}
use Rattle.esto_semantics.specs.Valuations.{Assignment, Extends}
use Rattle.esto_query.specs.declared.trail.Binding.{Binding}

-- The start with the bindings of a trail.
abbrev pub with_trail : Assignment → List Binding → Assignment
with_trail start trail = fold (λ known binding. insert known binding.variable binding.term.now) start trail

-- The maps that extend the new valuation are exactly those that extend the old one and have a property.
abbrev pub Narrows : Assignment → Assignment → ((Term → Term) → Type 0) → Type 0
Narrows old new Property = (m : Term → Term) → Keeps Const m → Extends m new ↔ (Extends m old × Property m)

-- No map that extends the valuation has the property.
abbrev pub Excludes : Assignment → ((Term → Term) → Type 0) → Type 0
Excludes known Property = (m : Term → Term) → Keeps Const m → Extends m known → ¬ (Property m)

-- The new list begins with the old one.
abbrev pub Grew : {X : Type 0} → List X → List X → Type 0
Grew {X} old new = (more : List X) × (new ≡ old ++ more)

-- An attempt to give a property: the trail grew so that it has it, or it is as before and cannot have it.
abbrev pub Tries : Assignment → List Binding → List Binding → Bool → ((Term → Term) → Type 0) → Type 0
Tries start old new true Property = Grew old new × Narrows (with_trail start old) (with_trail start new) Property
Tries start old new false Property = (new ≡ old) × Excludes (with_trail start old) Property
