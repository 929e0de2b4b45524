use Rattle.esto_query.proofs.indexed.IndexedFacts.next_match.Goals as goal

pub least_after-requires : goal.least_after-requires
least_after-requires c = rw c.items.ensures c.requires
