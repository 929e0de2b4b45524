-- Which fragments planned steps can be run over.
use Rattle.std.specs.Prelude.{◌≡◌, Bool, List, [], Some, length, map, slice_get, slice_index_or, Contains}
use Rattle.esto_term.specs.declared.term.Term.{Term}
use Rattle.esto_semantics.specs.declared.fact.Fact.{Fact}
use Rattle.esto_columns.specs.Asked.{Shape}
use Rattle.esto_steps.specs.Planned.{inputs_of}

-- Each fragment that an atom names is there, has as many columns as the atom has terms, and can be asked in the ways of its patterns.
abbrev pub HaveShapes : List (List (List Bool)) → List (Fact Term) → List Shape → Type 0
HaveShapes patterns atoms shapes = (atom : Fact Term) → Contains atoms atom
    → (shape : Shape) × (slice_get shapes atom.relation ≡ Some shape) × (shape.arity ≡ length atom.terms)
    × (shape.ways ≡ map inputs_of (slice_index_or patterns atom.relation []))
