use Rattle.std.proofs.Common.{◌≡◌, ◌++◌, ℕ, Some, take, slice_get, Contains}
use Rattle.esto_known.specs.declared.group.Group.{Group}
use Rattle.esto_condchase.specs.Rounds.{IsSideMet}
use Rattle.esto_condchase.proofs.joining.join_side.Given as goal
use Rattle.esto_condchase.proofs.JoinLemmas.{AreMetSoFar}

abbrev pub invariant-places : goal.invariant-places
invariant-places l = AreMetSoFar l.count l.entries l.initial.more l.more
    ((place : ℕ) (other : Group) → Contains (take l.place-index l.place-items) place → slice_get l.groups place ≡ Some other
    → IsSideMet l.entries l.since (l.entries ++ l.more) l.number l.first.claim place other l.from l.via)
