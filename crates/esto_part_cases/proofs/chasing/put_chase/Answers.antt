use Rattle.std.proofs.Common.{subst, length}
use Rattle.esto_constraint.specs.Graphs.{IsWithin}
use Rattle.esto_constraint.specs.Relations.{IsEdge}
use Rattle.esto_constraint.specs.Constraints.{rules_of}
use Rattle.esto_part_cases.proofs.LeadingLemmas.{ranks-themselves, ranks-within}
use Rattle.esto_part_cases.proofs.chasing.put_chase.Goals as goal

pub judge-requires : goal.judge-requires
judge-requires c =
    subst (λ count. IsWithin count (IsEdge (rules_of c.args.rules.now))) c.len.ensures.value
    (subst (λ rules. IsWithin c.len.result (IsEdge (rules_of rules))) c.items.ensures (c.lead_below.ensures c.if-not-lead_below.false))

pub put_end-requires-clause-within : goal.put_end-requires-clause-within
put_end-requires-clause-within c =
    let are_ranks = rw c.in-Left.is at c.in_ok-ranks.ensures.ranks in
    ranks-within (rules_of c.args.rules.now) (length c.args.schema.now) c.in-Left.ranks are_ranks
    (subst (λ count. IsWithin count (IsEdge (rules_of c.args.rules.now))) c.len.ensures.value
    (subst (λ rules. IsWithin c.len.result (IsEdge (rules_of rules))) c.items.ensures (c.lead_below.ensures c.if-not-lead_below.false)))

pub put_end-requires-clause-ranks : goal.put_end-requires-clause-ranks
put_end-requires-clause-ranks c =
    let are_ranks = rw c.in-Left.is at c.in_ok-ranks.ensures.ranks in
    ranks-themselves (rules_of c.args.rules.now) (length c.args.schema.now) c.in-Left.ranks are_ranks
