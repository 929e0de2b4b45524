use Rattle.std.proofs.Common.{sym, ◌∙◌, subst}
use Rattle.esto_constraint.specs.Graphs.{Joins, IsWithin}
use Rattle.esto_acyclic.proofs.RankLemmas.{AreReached-start, AreRanks-still, room_falls}
use Rattle.esto_acyclic.proofs.graph.ranks_of.Goals as goal

pub rounds-init : goal.rounds-init
rounds-init c =
    let start = AreReached-start (Joins c.args.edges.now) c.args.count c.in_ok-ranks.ranks.items c.in_ok-ranks.ensures in
    record { same = start.0; reached = start.1 }

pub raise-requires-clause-within : goal.raise-requires-clause-within
raise-requires-clause-within c = subst (λ count. IsWithin count (Joins c.args.edges.now)) (sym c.rounds.invariant.same) c.requires

pub returns-in-Still : goal.returns-in-Still
returns-in-Still c = AreRanks-still c.args.edges.now c.args.count c.raise.new.ranks.items
    (c.raise.ensures.same ∙ c.rounds.invariant.same) c.raise.ensures.reached c.in-Still.ensures.raises

pub rounds-smaller : goal.rounds-smaller
rounds-smaller c = room_falls (Joins c.args.edges.now) c.args.count c.rounds.ranks.items c.raise.new.ranks.items
    (c.raise.ensures.same ∙ c.rounds.invariant.same) c.raise.ensures.reached c.in-Rose.ensures.raises
