use Rattle.std.proofs.Common.{◌<◌, length, sym, ◌∙◌, subst}
use Rattle.std.specs.List.{All}
use Rattle.esto_constraint.specs.Constraints.{rules_of}
use Rattle.esto_constraint.specs.Graphs.{AreRanks}
use Rattle.esto_constraint.specs.Relations.{IsEdge}
use Rattle.esto_constraint.proofs.CycleLemmas.{acyclic}
use Rattle.esto_acyclic.proofs.EdgeLemmas.{cycle_below, not_acyclic, joined_within, judged_ranks, judged_cycle}
use Rattle.esto_acyclic.proofs.relations.judge.Goals as goal

pub judge_edges-requires : goal.judge_edges-requires
judge_edges-requires c =
    let edges = c.items-2.ensures ∙ rw c.items.ensures at c.in_ok-edges.ensures in
    joined_within (rules_of c.args.rules.now) c.items-2.result.now edges (length c.args.schema.now) c.len.result c.len.ensures.value c.requires

pub returns-in-Left-clause-ranks : goal.returns-in-Left-clause-ranks
returns-in-Left-clause-ranks c =
    let edges = c.items-2.ensures ∙ rw c.items.ensures at c.in_ok-edges.ensures in
    let judged = rw c.in-Left.is at c.in_ok-judged.ensures.judged in
    subst (AreRanks (IsEdge (rules_of c.args.rules.now)) (length c.args.schema.now)) (sym c.of.ensures)
    (judged_ranks (rules_of c.args.rules.now) c.items-2.result.now edges
    (length c.args.schema.now) c.len.result c.len.ensures.value c.in-Left.ranks.items judged)

pub returns-in-Left-clause-acyclic : goal.returns-in-Left-clause-acyclic
returns-in-Left-clause-acyclic c =
    let edges = c.items-2.ensures ∙ rw c.items.ensures at c.in_ok-edges.ensures in
    let judged = rw c.in-Left.is at c.in_ok-judged.ensures.judged in
    acyclic (IsEdge (rules_of c.args.rules.now)) (length c.args.schema.now) c.in-Left.ranks.items c.requires
    (judged_ranks (rules_of c.args.rules.now) c.items-2.result.now edges
    (length c.args.schema.now) c.len.result c.len.ensures.value c.in-Left.ranks.items judged)

pub names_of-requires : goal.names_of-requires
names_of-requires c =
    let edges = c.items-2.ensures ∙ rw c.items.ensures at c.in_ok-edges.ensures in
    let judged = rw c.in-Right.is at c.in_ok-judged.ensures.judged in
    subst (λ relations. All (λ relation. relation < length c.args.schema.now) relations) (sym c.items-in-Right.ensures)
    (cycle_below (IsEdge (rules_of c.args.rules.now)) (length c.args.schema.now) c.requires c.in-Right.relations
    (judged_cycle (rules_of c.args.rules.now) c.items-2.result.now edges c.in-Right.relations judged))

pub returns-clause-acyclic : goal.returns-clause-acyclic
returns-clause-acyclic c =
    let edges = c.items-2.ensures ∙ rw c.items.ensures at c.in_ok-edges.ensures in
    let judged = rw c.in-Right.is at c.in_ok-judged.ensures.judged in
    not_acyclic (IsEdge (rules_of c.args.rules.now)) c.in-Right.relations
    (judged_cycle (rules_of c.args.rules.now) c.items-2.result.now edges c.in-Right.relations judged)

pub returns-clause-cycle : goal.returns-clause-cycle
returns-clause-cycle c =
    let edges = c.items-2.ensures ∙ rw c.items.ensures at c.in_ok-edges.ensures in
    let judged = rw c.in-Right.is at c.in_ok-judged.ensures.judged in (
      judged_cycle (rules_of c.args.rules.now) c.items-2.result.now edges c.in-Right.relations judged,
      rw c.items-in-Right.ensures at c.in_ok-names-in-Right.ensures,
    )
