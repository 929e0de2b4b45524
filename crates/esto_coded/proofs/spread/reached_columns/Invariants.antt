use Rattle.esto_coded.specs.Spread.{AreReached}
use Rattle.esto_coded.proofs.spread.reached_columns.Given as goal

-- the columns so far are those of reached terms
abbrev pub invariant-columns : goal.invariant-columns
invariant-columns l = AreReached l.lead l.before l.terms l.columns
