use Rattle.std.proofs.Common.{◌≡◌, List, Some, sym, subst, ap, ◌∙◌}
use Rattle.std.proofs.lemmas.Result.{IfOk-weaker}
use Rattle.esto_term.specs.declared.term.Term.{Term}
use Rattle.esto_constraint.specs.Constraints.{rule_of}
use Rattle.esto_semantics.specs.Facts.{terms_of}
use Rattle.esto_semantics.specs.Rules.{body_of}
use Rattle.esto_chase_laws.specs.WorldMatches.{taken}
use Rattle.esto_chase_laws.specs.WorldSteps.{IsAsked}
use Rattle.esto_cert.specs.Certificates.{made_at}
use Rattle.esto_derive.proofs.writing.place_at.Goals as goal

pub place_of-requires-clause-asked : goal.place_of-requires-clause-asked
place_of-requires-clause-asked c =
    let rule = rule_of c.args.rule.now in
    subst (λ (it : List Term). IsAsked c.args.number rule (taken it c.items-2.result.now) c.args.claim.now)
    (sym (c.items.ensures ∙ c.in_ok-from.ensures ∙ ap terms_of c.body_of.ensures))
    (subst (λ (it : List Term). IsAsked c.args.number rule (taken (terms_of (body_of rule)) it) c.args.claim.now)
    (sym (c.items-2.ensures ∙ c.in_ok-to.ensures)) c.requires.asked)

pub returns : goal.returns
returns c =
    let rule = rule_of c.args.rule.now in
    IfOk-weaker c.place_of.result _ _
    (λ place is. subst (λ (it : List Term). made_at place c.args.number rule (taken (terms_of (body_of rule)) it) ≡ Some c.args.claim.now)
    (c.items-2.ensures ∙ c.in_ok-to.ensures)
    (subst (λ (it : List Term). made_at place c.args.number rule (taken it c.items-2.result.now) ≡ Some c.args.claim.now)
    (c.items.ensures ∙ c.in_ok-from.ensures ∙ ap terms_of c.body_of.ensures) is))
    c.place_of.ensures
