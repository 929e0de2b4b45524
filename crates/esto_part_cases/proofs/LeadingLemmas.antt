-- Rules that lead between relations below a count.
use Rattle.std.proofs.Common.{ℕ, ◌<◌, List, length, Contains, sym, subst}
use Rattle.esto_constraint.specs.Graphs.{IsWithin, AreRanks}
use Rattle.esto_constraint.specs.Relations.{HasRelation, IsEdge}
use Rattle.esto_constraint.specs.Constraints.{rule_of, rules_of}
use Rattle.esto_constraint.specs.declared.rule.Constraint.{Constraint}
use Rattle.esto_semantics.specs.Rules.{Rule, tuple}
use Rattle.esto_semantics.specs.declared.fact.Fact.{Fact}
use Rattle.esto_term.specs.declared.term.Term.{Term}
use Rattle.esto_term.proofs.ListLemmas.{Contains-map_from}
use Rattle.esto_part_cases.specs.Leading.{AreBelow, LeadsBelow}

relation_below : (relations : ℕ) (atoms : List (Fact Term)) (relation : ℕ) → AreBelow relations atoms → HasRelation atoms relation → relation < relations
relation_below relations atoms relation below (atom, there, is) = subst (λ it. it < relations) is (below atom there)

-- where each rule leads below the count, so do the edges
pub leads-within : (relations : ℕ) (rules : List Constraint)
    → ((rule : Constraint) → Contains rules rule → LeadsBelow relations (rule_of rule)) → IsWithin relations (IsEdge (rules_of rules))
leads-within relations rules each from to (body, head, inside, leaves, arrives) =
    let found = Contains-map_from rule_of rules (tuple body head) inside in
    let below : LeadsBelow relations (tuple body head) = subst (LeadsBelow relations) found.2 (each found.0 found.1) in
    (relation_below relations body from below.0 leaves, relation_below relations head to below.1 arrives)

module _ (rules : List Rule) (count : ℕ) (ranks : List ℕ) (are_ranks : AreRanks (IsEdge rules) count ranks) where
  pub ranks-within : IsWithin count (IsEdge rules) → IsWithin (length ranks) (IsEdge rules)
  ranks-within within = subst (λ it. IsWithin it (IsEdge rules)) (sym are_ranks.for_each) within

  -- the list has the rank of each relation below its own length
  pub ranks-themselves : AreRanks (IsEdge rules) (length ranks) ranks
  ranks-themselves = subst (λ it. AreRanks (IsEdge rules) it ranks) (sym are_ranks.for_each) are_ranks
