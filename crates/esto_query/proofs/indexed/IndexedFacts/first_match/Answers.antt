use Rattle.esto_query.proofs.indexed.IndexedFacts.first_match.Goals as goal

pub least_match-requires : goal.least_match-requires
least_match-requires c = rw c.items.ensures c.requires
