use Rattle.std.proofs.lemmas.Result.{IfOk-weaker}
use Rattle.esto_query.specs.Trails.{with_trail}
use Rattle.esto_query.proofs.ActiveLemmas.{denial_decides}
use Rattle.esto_query.proofs.active.has_match.Goals as goal

pub returns-clause-decides : goal.returns-clause-decides
returns-clause-decides c =
    IfOk-weaker c.seek.result _ _ (denial_decides c.args.left.now c.args.facts.now (with_trail c.args.start.now c.args.trail.now.items)) c.seek.ensures.decides
