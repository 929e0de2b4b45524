use Rattle.esto_stores.specs.Left.{left_of}
use Rattle.esto_stores.proofs.reader.open_reader.Goals as goal

pub returns-clause-left : goal.returns-clause-left
unfolding left_of
returns-clause-left c = rw (c.from_reader.ensures.state, c.from_reader.ensures.source)
