use Rattle.std.proofs.Common.{◌≡◌, ◌<◌, ℕ, Some, slice_get, take, Contains}
use Rattle.esto_known.specs.declared.group.Group.{Group}
use Rattle.esto_known.proofs.fresh.has_since.Given as goal

-- the groups so far have none
abbrev pub invariant-found : goal.invariant-found
invariant-found l = (at : ℕ) → Contains (take l.at-index l.found) at → (group : Group) → slice_get l.groups at ≡ Some group → (place : ℕ)
    → Contains group.places place → place < l.since
