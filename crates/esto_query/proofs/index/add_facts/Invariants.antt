use Rattle.esto_query.specs.Indexes.{AreListed}
use Rattle.esto_query.proofs.index.add_facts.Given as goal

abbrev pub invariant-facts : goal.invariant-facts
invariant-facts l = AreListed l.facts l.columns l.names l.place l.terms.items
