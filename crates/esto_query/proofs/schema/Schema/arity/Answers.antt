use Rattle.esto_query.proofs.SchemaLemmas.{arity_range}
use Rattle.esto_query.proofs.schema.Schema.arity.Goals as goal

pub returns-clause-range : goal.returns-clause-range
returns-clause-range c = arity_range c.self.inside.relations c.args.relation _ c.item.ensures c.self.invariant.arities
