use Rattle.std.proofs.Common.{sym, ◌∙◌}
use Rattle.esto_course.specs.Course.{demands}
use Rattle.esto_course.specs.Course.Stops.{refused}
use Rattle.esto_status.specs.declared.status.Status.TheVariants.{HeadLengths}
use Rattle.esto_reasoning.proofs.containing.one_length.Goals as goal

pub returns-then-one-other : goal.returns-then-one-other
unfolding demands
returns-then-one-other c = sym c.len-one.ensures ∙ c.if-one-other.true ∙ c.len-other.ensures

pub returns : goal.returns
unfolding demands
returns c =
    refused (record { cause = tt })
    ((λ same. c.if-one-other.false (c.len-one.ensures ∙ same ∙ sym c.len-other.ensures)), λ i. HeadLengths (c.len-one.ensures i) (c.len-other.ensures i))
