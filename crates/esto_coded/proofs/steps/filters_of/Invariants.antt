use Rattle.esto_coded.proofs.WholeLemmas.{AreFiltersBelow}
use Rattle.esto_coded.proofs.steps.filters_of.Given as goal

abbrev pub invariant-columns : goal.invariant-columns
invariant-columns l = AreFiltersBelow l.initial.codes l.codes l.initial.bound l.terms l.column l.bound l.links
