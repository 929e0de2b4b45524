use Rattle.std.proofs.Common.{◌∷◌, [], subst}
use Rattle.std.specs.Prelude.{Contains}
use Rattle.esto_term.proofs.ListLemmas.{Contains-head}
use Rattle.esto_rewriting.specs.declared.members.Member.{Member}
use Rattle.esto_rewriting.proofs.picking.push_pick.Goals as goal

pub pick_of-requires : goal.pick_of-requires
pick_of-requires c =
    c.requires c.in-Planned.plan c.in-Planned.listing
    (subst (λ (it : Member). Contains (c.args.member.now ∷ []) it) c.in-Planned.is (Contains-head c.args.member.now []))
