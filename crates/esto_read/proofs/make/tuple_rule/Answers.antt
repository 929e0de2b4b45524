use Rattle.esto_query.specs.Schemas.{arities_of}
use Rattle.esto_read.proofs.MakeLemmas.{relations_within, tuple_is_made}
use Rattle.esto_read.proofs.RuleLemmas.{tuple_made_over}
use Rattle.esto_read.proofs.make.tuple_rule.Goals as goal

pub make_tuple_rule-requires : goal.make_tuple_rule-requires
make_tuple_rule-requires c = record {
  has_body = c.requires.sound.rule.has_body;
  has_head = c.requires.sound.rule.has_head;
  body_relations = relations_within c.args.schema.now c.args.body c.requires.over.0;
  head_relations = relations_within c.args.schema.now c.args.head c.requires.over.1;
  flat_body = c.requires.sound.rule.flat_body;
  flat_head = c.requires.sound.rule.flat_head;
  body_named = c.requires.sound.body_named;
  head_named = c.requires.sound.head_named;
}

pub unreachable-requires : goal.unreachable-requires
unreachable-requires c =
    tuple_is_made (arities_of c.args.schema.now) c.args.body c.args.head c.args.names c.in-Err.field-0 c.requires.over.0 c.requires.over.1
    c.requires.body_size c.requires.head_size c.in-Err.ensures

pub returns-clause-over : goal.returns-clause-over
returns-clause-over c =
    tuple_made_over (arities_of c.args.schema.now) c.args.names c.in-Ok.rule c.args.body c.args.head c.in-Ok.ensures c.requires.over
