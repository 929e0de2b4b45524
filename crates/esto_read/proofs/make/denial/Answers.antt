use Rattle.esto_query.specs.Schemas.{arities_of}
use Rattle.esto_read.proofs.MakeLemmas.{relations_within, denial_is_made}
use Rattle.esto_read.proofs.RuleLemmas.{denial_made_over}
use Rattle.esto_read.proofs.make.denial.Goals as goal

pub make_denial-requires : goal.make_denial-requires
make_denial-requires c = record {
  has_body = c.requires.sound.rule.has_body;
  relations = relations_within c.args.schema.now c.args.body c.requires.over.0;
  flat_body = c.requires.sound.rule.flat_body;
  named = c.requires.sound.named;
}

pub unreachable-requires : goal.unreachable-requires
unreachable-requires c =
    denial_is_made (arities_of c.args.schema.now) c.args.body c.args.names c.in-Err.field-0 c.requires.over.0 c.requires.size c.in-Err.ensures

pub returns-clause-over : goal.returns-clause-over
returns-clause-over c = denial_made_over (arities_of c.args.schema.now) c.args.names c.in-Ok.rule c.args.body c.in-Ok.ensures c.requires.over
