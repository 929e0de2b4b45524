use Rattle.esto_query.proofs.index.index_of.Goals as goal

pub returns : goal.returns
returns c = record { relations = c.in_ok-relations.ensures; names = c.in_ok-names.ensures.0; terms = c.in_ok-names.ensures.1 }
