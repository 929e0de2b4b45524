use Rattle.esto_columns.proofs.CodingLemmas.{rows_grow}
use Rattle.esto_columns.proofs.laws.coded_rows_stay_coded.Goals as goal

pub returns : goal.returns
returns c = λ old new coded rows grown are. rows_grow old new coded rows grown are
