use Rattle.esto_query.specs.Schemas.{arities_of}
use Rattle.esto_read.proofs.MakeLemmas.{relations_within, query_is_made}
use Rattle.esto_read.proofs.make.query.Goals as goal

pub make_query-requires : goal.make_query-requires
make_query-requires c = record {
  has_head = c.requires.sound.query.has_head;
  has_body = c.requires.sound.query.has_body;
  relations = relations_within c.args.schema.now c.args.body c.requires.over;
  flat_head = c.requires.sound.query.flat_head;
  flat_body = c.requires.sound.query.flat_body;
  named = c.requires.sound.named;
}

pub unreachable-requires : goal.unreachable-requires
unreachable-requires c =
    query_is_made (arities_of c.args.schema.now) c.args.head c.args.body c.args.names c.in-Err.field-0 c.requires.sound.query.safe c.requires.over
    c.requires.size c.in-Err.ensures
