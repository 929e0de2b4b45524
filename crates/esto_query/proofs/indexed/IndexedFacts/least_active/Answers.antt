use Rattle.std.proofs.Common.{ap, ◌∙◌}
use Rattle.esto_query.specs.Trails.{with_trail}
use Rattle.esto_query.proofs.indexed.IndexedFacts.least_active.Goals as goal

pub least_found-requires-clause-aimed : goal.least_found-requires-clause-aimed
least_found-requires-clause-aimed c =
    rw (ap (with_trail c.new-start.result) c.new-trail.ensures.items ∙ c.new-start.ensures) c.requires.aimed

pub returns : goal.returns
returns c = rw (ap (with_trail c.new-start.result) c.new-trail.ensures.items ∙ c.new-start.ensures) at c.least_found.ensures
