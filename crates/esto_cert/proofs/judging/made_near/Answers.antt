use Rattle.std.proofs.Common.{ap, sym, ◌∙◌, arith}
use Rattle.std.proofs.lemmas.Result.{IfOk-weaker}
use Rattle.esto_constraint.specs.Constraints.{rule_of}
use Rattle.esto_chase_laws.specs.WorldMatches.{taken}
use Rattle.esto_cert.specs.Certificates.{made_at}
use Rattle.esto_cert.proofs.BeyondLemmas.{near_is, none_made}
use Rattle.esto_cert.proofs.judging.made_near.Goals as goal

pub returns-then-place-eq18446744073709551615 : goal.returns-then-place-eq18446744073709551615
returns-then-place-eq18446744073709551615 c = λ said near.
    none_made said c.args.number (rule_of c.args.rule.now) (taken c.args.from.now c.args.to.now) (near ∙ c.if-place-eq18446744073709551615.true)
    (omega (arith, c.head_count.ensures, c.head_count.type_inv, c.if-head_count-eq18446744073709551615.false))

pub returns : goal.returns
returns c =
    IfOk-weaker c.made_at.result _ _
    (λ it is said near. is ∙ ap (λ at. made_at at c.args.number (rule_of c.args.rule.now) (taken c.args.from.now c.args.to.now))
    (sym (near_is said c.args.place near c.if-place-eq18446744073709551615.false)))
    c.made_at.ensures
