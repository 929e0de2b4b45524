-- Parts of facts in which the least active match of a rule is the least of all.
use Rattle.std.specs.Prelude.{◌≡◌, ℕ, List, Contains}
use Rattle.esto_semantics.specs.Maps.{Keeps, SendsInto}
use Rattle.esto_semantics.specs.Matches.{IsActive}
use Rattle.esto_semantics.specs.Rules.{Rule, Concludes, body_of}
use Rattle.esto_semantics.specs.declared.fact.Fact.{Fact}
use Rattle.esto_term.specs.declared.term.Term.{Term}
use Rattle.esto_term.specs.declared.term.Term.TheVariants.{Const}
use Rattle.esto_relmodel.specs.Once.{StandsBefore}

-- Some of the facts, of which those of one relation first stand in the same order, have each fact of the rule's active matches, and conclude for each match in
-- them what all facts conclude.
pub record IsPartFor (rule : Rule) (facts part : List (Fact Term)) : Type 0 where
  pub among : (fact : Fact Term) → Contains part fact → Contains facts fact
  pub in_order : (one other : Fact Term) → one.relation ≡ other.relation → Contains part other → StandsBefore part one other → StandsBefore facts one other
  pub active : (m : Term → Term) (places : List ℕ) → IsActive rule facts m places → SendsInto m (body_of rule) (Contains part)
  pub concluded : (m : Term → Term) → Keeps Const m → SendsInto m (body_of rule) (Contains part) → Concludes Const ◌≡◌ (Contains facts) rule m
      → Concludes Const ◌≡◌ (Contains part) rule m
