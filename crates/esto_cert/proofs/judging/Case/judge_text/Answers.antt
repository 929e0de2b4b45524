use Rattle.std.proofs.Common.{Option, subst, sym, ◌∙◌}
use Rattle.std.proofs.lemmas.Result.{IfOk-weaker}
use Rattle.esto_cert.specs.Judging.{case_of, IsJudgedText}
use Rattle.esto_cert.specs.declared.line.Line.{Line}
use Rattle.esto_cert.proofs.BeyondLemmas.{near_read, unread_refused}
use Rattle.esto_cert.proofs.judging.Case.judge_text.Goals as goal

pub returns-in-Some : goal.returns-in-Some
returns-in-Some c =
    IfOk-weaker c.judge-judged.result _ _
    (λ judged is.
    let (its, said, stands) = near_read _ c.in-Some.line (sym c.in_ok-line.ensures ∙ c.in-Some.is) in
    subst (λ (it : Option Line). IsJudgedText (case_of c.args.self.now) c.args.claims.now it judged) (sym said) (is its stands))
    c.judge-judged.ensures

pub returns-in-None : goal.returns-in-None
returns-in-None c =
    unread_refused (case_of c.args.self.now) c.args.claims.now c.count_all.ensures _ (sym c.in_ok-line.ensures ∙ c.in-None.is)
