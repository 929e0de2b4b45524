use Rattle.esto_text.specs.Faults.{IsFieldIn}
use Rattle.esto_read.specs.Patterns.{IsStepOf}
use Rattle.esto_read.proofs.PatternLemmas.{step_stands, path_more}
use Rattle.esto_read.proofs.pattern.path.Goals as goal

pub step-requires-clause-stands : goal.step-requires-clause-stands
step-requires-clause-stands c = step_stands (IsFieldIn c.args.bytes.now) c.args.steps.now c.steps.each-index _ c.steps-test.true c.requires.stand

pub steps-preserved : goal.steps-preserved
steps-preserved c =
    rw c.in_ok-push.ensures.ok
    (path_more (IsStepOf c.args.bytes.now) c.args.steps.now c.steps.each-index c.steps.path _ c.in_ok-step.field-0 c.steps-test.true c.steps.invariant
    c.in_ok-step.ensures)
