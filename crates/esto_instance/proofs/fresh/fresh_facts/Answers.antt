use Rattle.std.proofs.Common.{sym, ap, ◌∙◌, ◌++◌}
use Rattle.std.proofs.lemmas.Result.{IfOk-weaker}
use Rattle.esto_instance.proofs.FreshLemmas.{fresh_joined}
use Rattle.esto_instance.proofs.fresh.fresh_facts.Goals as goal

pub returns : goal.returns
returns c = IfOk-weaker c.copies_of.result _ _ (λ fresh is.
    fresh_joined c.args.facts.now c.args.more.now c.in_ok-marks.marks c.in_ok-marks.ensures
    ∙ ap (λ it. c.args.facts.now ++ it) (sym is)) c.copies_of.ensures
