use Rattle.std.proofs.Common.{◌≡◌, ◌++◌, drop}
use Rattle.esto_query.specs.Schemas.{names_of}
use Rattle.esto_top.specs.Check.{rank_lines}
use Rattle.esto_top.proofs.check.put_ranks.Given as goal

abbrev pub invariant-relations : goal.invariant-relations
invariant-relations l =
    l.text ++ rank_lines (drop l.relation (names_of l.schema)) (drop l.relation l.ranks) ≡ l.initial.text ++ rank_lines (names_of l.schema) l.ranks
