use Rattle.esto_bits.proofs.FamilyLemmas.{one_more_is_minimal, kept_are_minimal}
use Rattle.esto_bits.proofs.products.kept_sets_are_minimal.Goals as goal

pub returns : goal.returns
returns c = record { one_more = one_more_is_minimal; all = kept_are_minimal }
