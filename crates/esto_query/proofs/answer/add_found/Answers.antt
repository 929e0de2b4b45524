use Rattle.std.proofs.lemmas.Result.{on_ok_weaker}
use Rattle.esto_query.specs.Making.{query_of}
use Rattle.esto_query.specs.Trails.{with_trail}
use Rattle.esto_query.proofs.SoundLemmas.{sound_of}
use Rattle.esto_query.proofs.RowLemmas.{known_at_first, answers_added}
use Rattle.esto_query.proofs.answer.add_found.Goals as goal

pub collect-requires-clause-flat : goal.collect-requires-clause-flat
collect-requires-clause-flat c =
    let kept = sound_of c.args.query.now.head c.args.query.now.body c.args.query.now.names c.args.query.now.sound in
    rw (c.in_ok-left.ensures, c.items-body.ensures) kept.query.flat_body

pub collect-requires-clause-known : goal.collect-requires-clause-known
collect-requires-clause-known c =
    let kept = sound_of c.args.query.now.head c.args.query.now.body c.args.query.now.names c.args.query.now.sound in
    rw (c.items-head.ensures, c.in_ok-left.ensures, c.items-body.ensures) (known_at_first (query_of c.args.query.now) _ kept.query)

pub returns : goal.returns
returns c =
    let adds = rw (c.items-head.ensures, c.in_ok-left.ensures, c.items-body.ensures) at c.collect.ensures.adds in
    on_ok_weaker c.collect.result (answers_added (query_of c.args.query.now) c.args.facts.now c.args.rows.now.items c.collect.new.rows.items
    (with_trail c.args.start.now c.args.trail.now.items) c.requires) adds
