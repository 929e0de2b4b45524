-- What rules keep.
use Rattle.std.specs.Prelude.{List}
use Rattle.esto_term.specs.declared.term.Term.{Term}
use Rattle.esto_semantics.specs.Rules.{IsTupleRule, IsEqualityRule, IsDenial}
use Rattle.esto_semantics.specs.declared.fact.Fact.{Fact}
use Rattle.esto_query.specs.Soundness.{AreNamed}
use Rattle.esto_query.specs.declared.query.Name.{Name}

-- Body and head are those of a tuple rule, and each of its variables has a name.
pub record IsSoundTuple (body head : List (Fact Term)) (names : List Name) : Type 0 where
  pub rule : IsTupleRule body head
  pub body_named : AreNamed names body
  pub head_named : AreNamed names head

-- Body and sides are those of an equality rule, and each of its variables has a name.
pub record IsSoundEquality (body : List (Fact Term)) (left right : Term) (names : List Name) : Type 0 where
  pub rule : IsEqualityRule body left right
  pub named : AreNamed names body

-- The body is that of a denial, and each of its variables has a name.
pub record IsSoundDenial (body : List (Fact Term)) (names : List Name) : Type 0 where
  pub rule : IsDenial body
  pub named : AreNamed names body
