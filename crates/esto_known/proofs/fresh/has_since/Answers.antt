use Rattle.std.proofs.Common.{◌≡◌, ◌<◌, ℕ, Some, slice_get, Contains}
use Rattle.std.proofs.lemmas.List.{get_or_default}
use Rattle.esto_term.proofs.ListLemmas.{Contains-nil, each_more, each_seen}
use Rattle.esto_known.specs.declared.group.Group.{Group}
use Rattle.esto_known.proofs.fresh.has_since.Goals as goal

pub found-init : goal.found-init
found-init c at inside = absurd (Contains-nil at inside)

pub found-preserved : goal.found-preserved
found-preserved c = each_more (λ at. (group : Group) → slice_get c.args.groups.now at ≡ Some group → (place : ℕ) → Contains group.places place
    → place < c.args.since) c.args.found.now c.found.at-index _ c.found-test.true (get_or_default c.args.found.now c.found.at-index _ _ c.found-test.true)
    (c.is_since.ensures c.if-is_since.false) c.found.invariant

pub returns : goal.returns
returns c _ = each_seen (λ at. (group : Group) → slice_get c.args.groups.now at ≡ Some group → (place : ℕ) → Contains group.places place
    → place < c.args.since) c.args.found.now c.found.at-index c.found-test.false c.found.invariant
