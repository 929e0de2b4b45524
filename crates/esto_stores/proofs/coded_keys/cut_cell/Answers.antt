use Rattle.esto_stores.proofs.KeyLemmas.{cell_first, cell_last}
use Rattle.esto_stores.proofs.coded_keys.cut_cell.Goals as goal

pub returns-in-Some-clause-cells : goal.returns-in-Some-clause-cells
returns-in-Some-clause-cells c = cell_first c.args.line.now c.in-Some.end c.in-Some.ensures

pub returns-in-None-clause-cells : goal.returns-in-None-clause-cells
returns-in-None-clause-cells c = cell_last c.args.line.now c.in-None.ensures
