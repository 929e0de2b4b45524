use Rattle.std.proofs.Common.{refl}
use Rattle.esto_columns.specs.Indexed.{mixed}
use Rattle.esto_known.proofs.hashes.mixed.Goals as goal

pub returns : goal.returns
unfolding mixed
returns c = refl
