-- What a sink of facts has room for, and what it gains.
use Rattle.std.specs.Prelude.{◌≡◌, ℕ, List, ◌++◌, length, slice_get, Option, Some, None}
use Rattle.esto_term.specs.declared.term.Term.{Term}
use Rattle.esto_semantics.specs.declared.fact.Fact.{Fact}
use Rattle.esto_docmodel.specs.DocumentFacts.{DocFact, flat}

-- A fact of that relation over that row.
abbrev pub fact_over : ℕ → List Term → Fact Term
fact_over relation terms = record { relation = relation; terms = terms }

-- Where it is told how many columns each relation has, the fact is over one of them, with as many terms.
abbrev pub HasRoom : Option (List ℕ) → Fact Term → Type 0
HasRoom None fact = Unit {0}
HasRoom (Some arities) fact = slice_get arities fact.relation ≡ Some (length fact.terms)

-- So it is with each fact of documents in the five relations that stand from the base on.
abbrev pub HaveRoom : Option (List ℕ) → ℕ → Type 0
HaveRoom arities base = (fact : DocFact Term) → HasRoom arities (flat base fact)

-- Whatever facts the sink held, it holds those and then these; and no relation has other columns.
pub record Gains {S : Type 0} (Holds : S → List (Fact Term) → Type 0) (arities : S → Option (List ℕ)) (facts : List (Fact Term)) (old new : S) : Type 0 where
  pub held : (before : List (Fact Term)) → Holds old before → Holds new (before ++ facts)
  pub same : arities new ≡ arities old
