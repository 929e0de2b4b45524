use Rattle.std.proofs.Common.{subst}
use Rattle.std.specs.Prelude.{Contains}
use Rattle.esto_term.proofs.ListLemmas.{Contains-one, Contains-read}
use Rattle.esto_rewriting.specs.declared.members.Member.{Member}
use Rattle.esto_rewriting.specs.declared.members.Member.TheVariants.{Planned}
use Rattle.esto_rewriting.proofs.PickingLemmas.{picks_next}
use Rattle.esto_rewriting.proofs.picking.picks_of.Goals as goal

pub push_pick-requires : goal.push_pick-requires
push_pick-requires c = λ plan items inside.
    c.requires plan items (subst (λ (it : Member). Contains c.args.members.now it) (Contains-one c.member-item.result (Planned plan items) inside)
    (Contains-read c.args.members.now c.members.member-index c.member-item.result c.members-test.true c.member-item.is))

pub members-preserved : goal.members-preserved
members-preserved c =
    picks_next c.args.members.now c.args.number c.members.member-index c.member-item.result c.members.picks c.push_pick.new.picks c.members-test.true
    c.member-item.is c.in_ok-push_pick.ensures.added c.members.invariant
