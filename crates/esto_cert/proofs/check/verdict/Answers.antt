use Rattle.std.proofs.Common.{List, ℕ, [], map, subst, ap, ◌∙◌}
use Rattle.std.proofs.lemmas.Result.{IfOk-weaker}
use Rattle.esto_cert.specs.Judging.{case_of, Verdict}
use Rattle.esto_cert.proofs.check.verdict.Goals as goal

pub returns : goal.returns
returns c =
    IfOk-weaker c.first_wrong.result _ _
    (λ found is. subst (λ (it : List (List ℕ)). Verdict (case_of c.args.case.now) [] 1 it found)
    (ap (map (λ part. part.now)) c.as_slice.ensures.value ∙ c.in_ok-parts.ensures) is)
    c.first_wrong.ensures
