use Rattle.std.proofs.Common.{option_map, ap, sym, subst, ◌∙◌}
use Rattle.std.proofs.lemmas.Result.{IfOk-weaker}
use Rattle.esto_constraint.specs.Constraints.{rule_of, rules_of}
use Rattle.esto_cert.specs.Judging.{case_of, IsJudged}
use Rattle.esto_cert.specs.declared.line.Line.TheVariants.{Step}
use Rattle.esto_cert.proofs.JudgeLemmas.{from_is, numbered_rule, step_judged, unmatched}
use Rattle.esto_cert.proofs.judging.Case.judge_step.Goals as goal

pub judge_made-judged-requires : goal.judge_made-judged-requires
judge_made-judged-requires c =
    from_is (case_of c.args.self.now) c.args.claims.now c.args.number c.args.place c.args.facts.now c.args.links.now (rule_of c.in-Some.rule.now)
    c.body_of.result.now c.in_ok-it.field-0 c.in-Some-2.it
    (numbered_rule c.args.self.now.rules.now c.args.number c.in-Some.rule.now (sym c.numbered.ensures ∙ ap (option_map (λ item. item.now)) c.in-Some.is))
    c.body_of.ensures c.in_ok-it.ensures c.in-Some-2.is

pub returns-in-Some-2 : goal.returns-in-Some-2
returns-in-Some-2 c =
    IfOk-weaker c.judge_made-judged.result _ _
    (λ judged is said near. subst (IsJudged (case_of c.args.self.now) c.args.claims.now (Step c.args.number said c.args.facts.now c.args.links.now))
    (sym (is said near))
    (step_judged (case_of c.args.self.now) c.args.claims.now c.args.number said c.args.facts.now c.args.links.now (rule_of c.in-Some.rule.now)
    c.body_of.result.now c.in_ok-it.field-0 c.in-Some-2.it
    (numbered_rule c.args.self.now.rules.now c.args.number c.in-Some.rule.now (sym c.numbered.ensures ∙ ap (option_map (λ item. item.now)) c.in-Some.is))
    c.body_of.ensures c.in_ok-it.ensures c.in-Some-2.is))
    c.judge_made-judged.ensures

pub returns-in-None : goal.returns-in-None
returns-in-None c = λ said near. (
  (λ claim it. unmatched (rules_of c.args.self.now.rules.now) c.args.number (rule_of c.in-Some.rule.now) c.args.claims.now c.body_of.result.now
      c.args.facts.now c.args.links.now c.in_ok-it.field-0
      (numbered_rule c.args.self.now.rules.now c.args.number c.in-Some.rule.now (sym c.numbered.ensures ∙ ap (option_map (λ item. item.now)) c.in-Some.is))
      c.body_of.ensures c.in_ok-it.ensures c.in-None.is it.0 it.1 it.2.0 it.2.1 it.2.2),
  (λ wrong. wrong),
)
