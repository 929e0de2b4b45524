use Rattle.std.proofs.Common.{refl}
use Rattle.esto_table.specs.Hashes.{mixed}
use Rattle.esto_table.proofs.hash.mixed.Goals as goal

pub returns : goal.returns
unfolding mixed
returns c = refl
