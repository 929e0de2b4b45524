use Rattle.std.proofs.Common.{sym, subst, ◌∙◌}
use Rattle.esto_steps.specs.Planned.{IsKnown}
use Rattle.esto_coded.proofs.WholeLemmas.{fixed_known, whole_steps}
use Rattle.esto_coded.proofs.steps.steps_with.Goals as goal

pub head_of-requires : goal.head_of-requires
head_of-requires c = λ term inside. subst (λ them. IsKnown them term) (sym (c.items.ensures ∙ c.in_ok-gets.ensures.bound))
    (fixed_known c.args.body.now term (c.requires.fixed term inside))

pub returns-clause-steps : goal.returns-clause-steps
returns-clause-steps c = whole_steps c.gets_of.new.codes c.head_of.new.codes (record { head = c.args.head.now; body = c.args.body.now }) c.items.result.now
    c.in_ok-gets.gets c.in_ok-head.head c.head_of.ensures.grown c.in_ok-gets.ensures.gets (c.items.ensures ∙ c.in_ok-gets.ensures.bound)
    c.in_ok-head.ensures.head
