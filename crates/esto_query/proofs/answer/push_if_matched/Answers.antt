use Rattle.std.proofs.lemmas.Result.{on_ok_weaker}
use Rattle.esto_query.specs.Trails.{with_trail}
use Rattle.esto_query.proofs.RowLemmas.{known_adds}
use Rattle.esto_query.proofs.answer.push_if_matched.Goals as goal

pub returns-clause-trail : goal.returns-clause-trail
returns-clause-trail c = on_ok_weaker c.push_image.result (λ _. c.in_ok-has_match.ensures.trail) c.push_image.ensures

pub returns-clause-adds : goal.returns-clause-adds
returns-clause-adds c =
    let found = rw c.if-not-branch.false at c.in_ok-has_match.ensures.decides in
    let adds = rw (c.deref.ensures.value, c.in_ok-has_match.ensures.trail) at c.push_image.ensures in
    on_ok_weaker c.push_image.result (known_adds c.args.head.now c.args.left.now c.args.facts.now (with_trail c.args.start.now c.args.trail.now.items) _ _
    c.requires.known found) adds
