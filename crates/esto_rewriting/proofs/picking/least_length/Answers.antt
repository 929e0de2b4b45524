use Rattle.std.proofs.Common.{List, take, subst}
use Rattle.std.proofs.lemmas.List.{take_all}
use Rattle.esto_term.proofs.ListLemmas.{Contains-nil}
use Rattle.esto_rewriting.specs.Picking.{IsLeast}
use Rattle.esto_rewriting.specs.declared.members.Member.{Member}
use Rattle.esto_rewriting.specs.declared.members.Member.TheVariants.{Planned}
use Rattle.esto_rewriting.proofs.PickingLemmas.{least_next}
use Rattle.esto_rewriting.proofs.picking.least_length.Goals as goal

pub members-init : goal.members-init
members-init c = λ plan items inside. Contains-nil (Planned plan items) inside

pub members-preserved : goal.members-preserved
members-preserved c =
    least_next c.args.members.now c.members.member-index c.member-item.result c.least_with-least.result c.members-test.true c.member-item.is
    (c.least_with-least.ensures (take c.members.member-index c.args.members.now) c.members.invariant)

pub returns : goal.returns
returns c = subst (λ (them : List Member). IsLeast them c.members.least) (take_all c.members.member-index c.args.members.now c.members-test.false)
    c.members.invariant
