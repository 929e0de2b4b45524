use Rattle.std.proofs.Common.{List, ℕ, subst, sym, ap, ◌∙◌}
use Rattle.std.proofs.lemmas.Result.{IfOk-weaker}
use Rattle.esto_cert.specs.Judging.{case_of, IsJudged}
use Rattle.esto_cert.specs.Reading.{StandsFor}
use Rattle.esto_cert.specs.declared.line.Line.{Line}
use Rattle.esto_cert.specs.declared.line.Line.TheVariants.{Step, Match}
use Rattle.esto_cert.proofs.judging.Case.judge.Goals as goal

pub returns-in-Expanded : goal.returns-in-Expanded
returns-in-Expanded c =
    IfOk-weaker c.judge_expanded.result _ _
    (λ judged is said stands. subst (λ (it : Line). IsJudged (case_of c.args.self.now) c.args.claims.now it judged)
    (sym (subst (λ (it : Line). StandsFor it said) c.in-Expanded.is stands)) (is c.args.claims.now))
    c.judge_expanded.ensures

pub returns-in-Step : goal.returns-in-Step
returns-in-Step c =
    IfOk-weaker c.judge_step.result _ _
    (λ judged is said stands.
    let (its, near, same) = subst (λ (it : Line). StandsFor it said) c.in-Step.is stands in
    subst (λ (it : Line). IsJudged (case_of c.args.self.now) c.args.claims.now it judged)
    (ap (λ (it : List ℕ). Step c.in-Step.number its it c.items-in-Step.result.now) c.items.ensures
    ∙ ap (λ (it : List ℕ). Step c.in-Step.number its c.in-Step.facts it) c.items-in-Step.ensures ∙ sym same) (is its near))
    c.judge_step.ensures

pub returns-in-Match : goal.returns-in-Match
returns-in-Match c =
    IfOk-weaker c.judge_match.result _ _
    (λ judged is said stands.
    subst (λ (it : Line). IsJudged (case_of c.args.self.now) c.args.claims.now it judged)
    (ap (λ (it : List ℕ). Match it c.items-in-Match-2.result.now) c.items-in-Match.ensures
    ∙ ap (λ (it : List ℕ). Match c.in-Match.facts it) c.items-in-Match-2.ensures
    ∙ sym (subst (λ (it : Line). StandsFor it said) c.in-Match.is stands)) is)
    c.judge_match.ensures
