use Rattle.std.proofs.Common.{◌≡◌, ℕ, Contains, Some, slice_get}
use Rattle.std.proofs.lemmas.List.{get_or_default}
use Rattle.esto_term.proofs.ListLemmas.{Contains-nil, each_more, each_seen}
use Rattle.esto_known.specs.declared.group.Group.{Group}
use Rattle.esto_known.proofs.live.put_groups.Goals as goal

pub found-init : goal.found-init
found-init c = λ at inside. absurd (Contains-nil at inside)

pub found-preserved : goal.found-preserved
found-preserved c =
    each_more (λ at. (group : Group) → slice_get c.args.groups.now at ≡ Some group → (place : ℕ) → Contains group.places place
    → Contains c.put_group.new.places place) c.args.found.now c.found.at-index _ c.found-test.true
    (get_or_default c.args.found.now c.found.at-index _ _ c.found-test.true)
    c.in_ok-put_group.ensures.there
    (λ at inside group is place its. c.in_ok-put_group.ensures.kept place (c.found.invariant at inside group is place its))

pub returns : goal.returns
returns c = each_seen (λ at. (group : Group) → slice_get c.args.groups.now at ≡ Some group → (place : ℕ) → Contains group.places place
    → Contains c.found.places place) c.args.found.now c.found.at-index c.found-test.false c.found.invariant
