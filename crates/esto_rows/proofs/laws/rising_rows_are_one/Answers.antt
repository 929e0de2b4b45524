use Rattle.esto_rows.proofs.RisingLemmas.{rising_once}
use Rattle.esto_rows.proofs.laws.rising_rows_are_one.Goals as goal

pub returns : goal.returns
returns c = rising_once
