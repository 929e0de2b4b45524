use Rattle.esto_input_laws.proofs.TreeLemmas.{query_or_stop, union_or_stop, constraints_or_stops, layout_or_stop}
use Rattle.esto_input_laws.proofs.grammar.tokens_have_trees_or_stops.Goals as goal

pub returns-clause-query : goal.returns-clause-query
returns-clause-query c = λ tokens. query_or_stop tokens

pub returns-clause-union : goal.returns-clause-union
returns-clause-union c = λ tokens. union_or_stop tokens

pub returns-clause-constraint : goal.returns-clause-constraint
returns-clause-constraint c = λ version bytes tokens. constraints_or_stops version bytes tokens

pub returns-clause-layout : goal.returns-clause-layout
returns-clause-layout c = λ tokens. layout_or_stop tokens
