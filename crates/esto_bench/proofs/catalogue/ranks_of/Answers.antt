use Rattle.std.proofs.Common.{List, length, subst}
use Rattle.esto_constraint.specs.Graphs.{AreRanks, IsAcyclic}
use Rattle.esto_constraint.specs.Relations.{IsEdge}
use Rattle.esto_constraint.specs.Constraints.{rules_of}
use Rattle.esto_constraint.specs.declared.rule.Constraint.{Constraint}
use Rattle.esto_bench.proofs.CatalogueLemmas.{within_none, acyclic_none}
use Rattle.esto_bench.proofs.catalogue.ranks_of.Goals as goal

pub judge-requires : goal.judge-requires
judge-requires c = within_none (length c.args.schema.now) c.new-rules.result c.new-rules.ensures

pub returns : goal.returns
returns c =
    let ranks = c.in-Left.ranks in
    let count = length c.args.schema.now in
    let given : AreRanks (IsEdge (rules_of c.new-rules.result)) count ranks = rw c.in-Left.is at c.in_ok-ranks.ensures.ranks in
    subst (λ (it : List Constraint). AreRanks (IsEdge (rules_of it)) count ranks) c.new-rules.ensures given

pub unreachable-requires : goal.unreachable-requires
unreachable-requires c =
    let cyclic : IsAcyclic (IsEdge (rules_of c.new-rules.result)) → ⊥ = rw c.in-Right.is at c.in_ok-ranks.ensures.acyclic in
    cyclic (acyclic_none c.new-rules.result c.new-rules.ensures)
