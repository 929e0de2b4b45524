use Rattle.esto_coded.proofs.StandLemmas.{ordered_stand}
use Rattle.esto_coded.proofs.coded.rows_in_order_stand_for_facts.Goals as goal

pub returns : goal.returns
returns c = ordered_stand
