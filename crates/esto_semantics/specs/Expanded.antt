-- The facts of an expansion.
use Rattle.std.specs.Prelude.{List, map}
use Rattle.esto_term.specs.declared.term.Term.{Term}
use Rattle.esto_semantics.specs.declared.fact.Fact.{Fact}
use Rattle.esto_semantics.specs.declared.expanded.ExpandedFact.{ExpandedFact}

-- The facts alone.
abbrev pub facts_of : List ExpandedFact → List (Fact Term)
facts_of expanded = map (λ fact. fact.fact) expanded
