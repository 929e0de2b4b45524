use Rattle.std.proofs.Common.{List, ap, sym, ◌∙◌}
use Rattle.esto_term.specs.declared.term.Term.{Term}
use Rattle.esto_constraint.specs.Constraints.{rule_of}
use Rattle.esto_chase_laws.specs.WorldMatches.{taken}
use Rattle.esto_cert.specs.Certificates.{made_at}
use Rattle.esto_cert.specs.Judging.{judged_of}
use Rattle.esto_cert.proofs.judging.judge_made.Goals as goal

pub returns-in-Some : goal.returns-in-Some
returns-in-Some c = λ said near.
    sym (ap judged_of
    (ap (λ (it : List Term). made_at said c.args.number (rule_of c.args.rule.now) (taken it c.args.it.now.to)) (sym c.items-from.ensures)
    ∙ ap (λ (it : List Term). made_at said c.args.number (rule_of c.args.rule.now) (taken c.items-from.result.now it)) (sym c.items-to.ensures)
    ∙ sym (c.in_ok-claim.ensures said near) ∙ c.in-Some.is))

pub returns-in-None : goal.returns-in-None
returns-in-None c = λ said near.
    sym (ap judged_of
    (ap (λ (it : List Term). made_at said c.args.number (rule_of c.args.rule.now) (taken it c.args.it.now.to)) (sym c.items-from.ensures)
    ∙ ap (λ (it : List Term). made_at said c.args.number (rule_of c.args.rule.now) (taken c.items-from.result.now it)) (sym c.items-to.ensures)
    ∙ sym (c.in_ok-claim.ensures said near) ∙ c.in-None.is))
