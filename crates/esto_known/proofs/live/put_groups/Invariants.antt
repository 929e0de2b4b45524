use Rattle.std.proofs.Common.{◌≡◌, ℕ, take, Some, Contains, slice_get}
use Rattle.esto_known.specs.declared.group.Group.{Group}
use Rattle.esto_known.proofs.live.put_groups.Given as goal

-- the places of the groups so far
abbrev pub invariant-found : goal.invariant-found
invariant-found l = (at : ℕ) → Contains (take l.at-index l.found) at → (group : Group) → slice_get l.groups at ≡ Some group → (place : ℕ)
    → Contains group.places place → Contains l.places place
