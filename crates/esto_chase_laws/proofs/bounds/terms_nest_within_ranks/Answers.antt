use Rattle.esto_chase_laws.specs.Bounds.{stock_of, width_of}
use Rattle.esto_chase_laws.proofs.StateLemmas.{ran}
use Rattle.esto_chase_laws.proofs.StockLemmas.{stock-Serves}
use Rattle.esto_chase_laws.proofs.bounds.terms_nest_within_ranks.Goals as goal

pub returns : goal.returns
returns c rules start rank are_rules is_start rise trace now run fact term inside within =
    let all = ran rules start are_rules is_start.flat_body trace now run in
    (all.low (stock_of rules start) (width_of rules start) rank (stock-Serves rules start is_start.flat_body) rise fact inside term within).1
