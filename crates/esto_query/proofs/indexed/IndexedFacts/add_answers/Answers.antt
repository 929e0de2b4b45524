use Rattle.std.proofs.Common.{ap, ◌∙◌}
use Rattle.esto_query.specs.Trails.{with_trail}
use Rattle.esto_query.proofs.indexed.IndexedFacts.add_answers.Goals as goal

pub add_found-requires : goal.add_found-requires
add_found-requires c = ap (with_trail c.new-start.result) c.new-trail.ensures.items ∙ c.new-start.ensures

pub returns : goal.returns
returns c = c.add_found.ensures
