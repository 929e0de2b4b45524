use Rattle.esto_course.specs.Course.{judges}
use Rattle.esto_reasoning.proofs.containing.text_of.Goals as goal

pub returns : goal.returns
unfolding judges
returns c = c.in_ok-text.ensures
