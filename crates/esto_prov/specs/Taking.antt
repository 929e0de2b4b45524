-- What a rule makes of the terms of its head, by what the terms of its body meet first.
use Rattle.std.specs.Prelude.{ℕ, List, cond}
use Rattle.std.specs.Set.{is_member}
use Rattle.esto_term.specs.Order.{same_term}
use Rattle.esto_term.specs.declared.term.Term.{Term}
use Rattle.esto_chase_laws.specs.Making.{made_for}
use Rattle.esto_chase_laws.specs.WorldMatches.{taken}

-- What a term of a head becomes: a term of the body what it meets first, and any other the term that the rule makes.
abbrev pub made_of : ℕ → List Term → List Term → List Term → Term → Term
made_of number from to values term = cond (is_member same_term from term) (taken from to term) (made_for number values term)
