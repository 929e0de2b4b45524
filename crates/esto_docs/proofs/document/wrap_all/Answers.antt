use Rattle.std.proofs.Common.{arith}
use Rattle.serde_json.specs.View.{view}
use Rattle.esto_docs.proofs.GroupLemmas.{wraps_more}
use Rattle.esto_docs.proofs.document.wrap_all.Goals as goal

pub steps-preserved : goal.steps-preserved
steps-preserved c =
    let held = c.steps.invariant in (
      omega (arith, held.0),
      wraps_more c.args.steps.now c.steps.left c.index-steps-left.result (view c.steps.value) _ (view c.args.value) c.steps-test.true held.0
          c.index-steps-left.is held.1 c.in_ok-value.ensures,
    )
