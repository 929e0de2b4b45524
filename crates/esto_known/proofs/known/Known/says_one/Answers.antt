use Rattle.std.proofs.Common.{subst}
use Rattle.esto_chase_laws.specs.declared.entry.Claim.TheVariants.{Same}
use Rattle.esto_chase_laws.proofs.ClaimLemmas.{says_same, same_says}
use Rattle.esto_known.specs.Groups.{AreGroups}
use Rattle.esto_known.proofs.GroupLemmas.{group_counts, group_tells, none_tells}
use Rattle.esto_known.proofs.known.Known.says_one.Goals as goal

pub covered-requires : goal.covered-requires
covered-requires c = group_counts c.args.self.now c.self.inside.groups c.in-Some.group.now _
    (subst (λ them. AreGroups them c.self.inside.groups) c.self.view_is c.self.invariant) c.in-Some.ensures.0 c.requires

pub returns-in-None : goal.returns-in-None
returns-in-None c = none_tells c.args.self.now c.self.inside.groups (Same c.args.term.now c.args.other.now) c.args.product.now
    (subst (λ them. AreGroups them c.self.inside.groups) c.self.view_is c.self.invariant)
    (λ group inside alike. c.in-None.ensures group inside (same_says c.args.term.now c.args.other.now group.claim alike))

pub returns-in-Some : goal.returns-in-Some
returns-in-Some c = group_tells c.args.self.now c.self.inside.groups (Same c.args.term.now c.args.other.now) c.in-Some.group.now c.args.product.now
    c.covered.result (subst (λ them. AreGroups them c.self.inside.groups) c.self.view_is c.self.invariant) c.in-Some.ensures.0
    (says_same c.args.term.now c.args.other.now c.in-Some.group.now.claim c.in-Some.ensures.1) c.covered.ensures
