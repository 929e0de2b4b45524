-- The facts of datasets' files as a database.
use Rattle.std.specs.Prelude.{List, map}
use Rattle.esto_term.specs.declared.term.Term.{Term, out-Term}
use Rattle.esto_term.specs.declared.term.Term.TheOpen.{Term-F}
use Rattle.esto_semantics.specs.Facts.{Database, image}
use Rattle.esto_semantics.specs.declared.fact.Fact.{Fact}
use Rattle.esto_semantics.specs.declared.fact.Value.{Value}
use Rattle.esto_semantics.specs.declared.fact.Value.TheVariants.{Text, Node}

-- The value of a term by its kind: a constant's text, and the unnamed value of a plain term's number. No fact of a dataset has a made term.
abbrev pub value_by_kind : Term-F Term → Value
value_by_kind (Term-F.Const text) = Text text
value_by_kind (Term-F.Plain node) = Node node
value_by_kind (Term-F.Made rule _ _) = Node rule

-- The value of a term in a fact of a dataset.
abbrev pub value_of : Term → Value
value_of term = value_by_kind (out-Term term)

-- The facts as a database.
abbrev pub database_of : List (Fact Term) → Database
database_of facts = map (image value_of) facts
