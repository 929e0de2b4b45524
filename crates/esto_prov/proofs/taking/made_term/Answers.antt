use Rattle.std.proofs.Common.{cond, sym, ap, ◌∙◌}
use Rattle.std.proofs.lemmas.Result.{IfOk-weaker}
use Rattle.esto_chase_laws.specs.WorldMatches.{taken}
use Rattle.esto_chase_laws.specs.Making.{made_for}
use Rattle.esto_prov.proofs.MeetLemmas.{member_is}
use Rattle.esto_prov.proofs.taking.made_term.Goals as goal

pub returns-then-has_term : goal.returns-then-has_term
returns-then-has_term c =
    let member = sym (member_is c.args.from.now c.args.term.now c.has_term.result c.has_term.ensures) ∙ c.if-has_term.true in
    IfOk-weaker c.copy.result _ _
    (λ it is. is ∙ c.taken_term.ensures ∙ sym (ap (λ answer. cond answer (taken c.args.from.now c.args.to.now c.args.term.now)
    (made_for c.args.number c.args.values.now c.args.term.now)) member)) c.copy.ensures

pub returns : goal.returns
returns c =
    let member = sym (member_is c.args.from.now c.args.term.now c.has_term.result c.has_term.ensures) ∙ c.if-has_term.false in
    IfOk-weaker c.made_for.result _ _
    (λ it is. is ∙ sym (ap (λ answer. cond answer (taken c.args.from.now c.args.to.now c.args.term.now)
    (made_for c.args.number c.args.values.now c.args.term.now)) member)) c.made_for.ensures
