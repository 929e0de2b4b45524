-- Which relations a rule leads between.
use Rattle.std.specs.Prelude.{ℕ, ◌<◌, List, Contains, ⊤}
use Rattle.esto_term.specs.declared.term.Term.{Term}
use Rattle.esto_semantics.specs.Rules.{Rule, tuple, equality, denial}
use Rattle.esto_semantics.specs.declared.fact.Fact.{Fact}

-- Each of the atoms is over a relation below the count.
abbrev pub AreBelow : ℕ → List (Fact Term) → Type 0
AreBelow relations atoms = (atom : Fact Term) → Contains atoms atom → atom.relation < relations

-- The atoms of a tuple rule, of its body and of its head, are.
abbrev pub LeadsBelow : ℕ → Rule → Type 0
LeadsBelow relations (tuple body head) = AreBelow relations body × AreBelow relations head
LeadsBelow relations (equality _ _ _) = ⊤
LeadsBelow relations (denial _) = ⊤
