use Rattle.std.proofs.Common.{[], get_or, sym, ◌∙◌}
use Rattle.std.proofs.lemmas.Result.{IfOk-weaker}
use Rattle.esto_steps.proofs.ProbeLemmas.{met_found}
use Rattle.esto_steps.proofs.probe.places_met.Goals as goal

pub returns : goal.returns
returns c = IfOk-weaker c.places.result _ _
    (λ found. met_found (get_or c.args.so_far.now.rows c.args.at []) c.args.rows.now.rows c.args.link.now c.in-Some.code found (sym c.code_at.ensures ∙ c.in-Some.is))
    c.places.ensures
