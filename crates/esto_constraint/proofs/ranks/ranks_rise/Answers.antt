use Rattle.esto_constraint.specs.Relations.{IsEdge}
use Rattle.esto_constraint.proofs.CycleLemmas as lemmas
use Rattle.esto_constraint.proofs.ranks.ranks_rise.Goals as goal

pub returns-clause-rise : goal.returns-clause-rise
returns-clause-rise c rules = lemmas.ranks_rise (IsEdge rules)

pub returns-clause-small : goal.returns-clause-small
returns-clause-small c rules = lemmas.ranks_are_small (IsEdge rules)
