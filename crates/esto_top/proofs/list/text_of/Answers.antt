use Rattle.esto_course.specs.Course.{judges}
use Rattle.esto_top.proofs.list.text_of.Goals as goal

pub returns : goal.returns
unfolding judges
returns c = c.in_ok-text.ensures
