use Rattle.esto_semantics.proofs.ValuationLemmas.{Keeps-map_of, Extends-map_of}
use Rattle.esto_semantics.proofs.valuation.valuations_are_maps.Goals as goal

pub returns-clause-keeps : goal.returns-clause-keeps
returns-clause-keeps c = Keeps-map_of

pub returns-clause-extends : goal.returns-clause-extends
returns-clause-extends c = Extends-map_of
