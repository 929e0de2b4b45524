use Rattle.std.proofs.Common.{take, option_copied}
use Rattle.esto_catalog.proofs.LeastLemmas.{IsLeastOf}
use Rattle.esto_catalog.proofs.row.least_unknown.Given as goal

abbrev pub invariant-fields : goal.invariant-fields
invariant-fields l = IsLeastOf l.keys (take l.field-index l.entry) (option_copied l.least)
