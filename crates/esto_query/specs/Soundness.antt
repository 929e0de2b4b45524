-- What a query keeps.
use Rattle.std.specs.Prelude.{ℕ, ◌<◌, List, length, Contains}
use Rattle.esto_term.specs.declared.term.Term.{Term}
use Rattle.esto_term.specs.declared.term.Term.TheVariants.{Plain}
use Rattle.esto_semantics.specs.Facts.{Mentions}
use Rattle.esto_semantics.specs.Maps.{IsFixedBy}
use Rattle.esto_semantics.specs.Queries.{IsQuery}
use Rattle.esto_semantics.specs.declared.fact.Fact.{Fact}
use Rattle.esto_query.specs.declared.query.Name.{Name}

-- Each variable of the atoms has a name.
abbrev pub AreNamed : List Name → List (Fact Term) → Type 0
AreNamed names body = (variable : ℕ) → Mentions body (Plain variable) → variable < length names

-- Each term of the head that is no constant is in the body.
abbrev pub IsSafe : List Term → List (Fact Term) → Type 0
IsSafe head body = (term : Term) → Contains head term → IsFixedBy body term

-- Head and body are those of a query, and each of its variables has a name.
pub record IsSound (head : List Term) (body : List (Fact Term)) (names : List Name) : Type 0 where
  pub query : IsQuery (record { head = head; body = body })
  pub named : AreNamed names body
