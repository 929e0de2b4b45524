use Rattle.esto_query.specs.Schemas.{arities_of}
use Rattle.esto_constraint.proofs.RuleLemmas.{flat_fixed}
use Rattle.esto_read.proofs.MakeLemmas.{relations_within, equality_is_made}
use Rattle.esto_read.proofs.RuleLemmas.{equality_made_over}
use Rattle.esto_read.proofs.make.equal_rule.Goals as goal

pub make_equal_rule-requires : goal.make_equal_rule-requires
make_equal_rule-requires c = record {
  has_body = c.requires.sound.rule.has_body;
  relations = relations_within c.args.schema.now c.args.body c.requires.over.0;
  flat_body = c.requires.sound.rule.flat_body;
  flat_left = flat_fixed c.args.body c.args.left c.requires.sound.rule.flat_body c.requires.sound.rule.left_fixed;
  flat_right = flat_fixed c.args.body c.args.right c.requires.sound.rule.flat_body c.requires.sound.rule.right_fixed;
  named = c.requires.sound.named;
}

pub unreachable-requires : goal.unreachable-requires
unreachable-requires c =
    equality_is_made (arities_of c.args.schema.now) c.args.body c.args.left c.args.right c.args.names c.in-Err.field-0
    c.requires.sound.rule.left_fixed c.requires.sound.rule.right_fixed c.requires.over.0 c.requires.size c.in-Err.ensures

pub returns-clause-over : goal.returns-clause-over
returns-clause-over c =
    equality_made_over (arities_of c.args.schema.now) c.args.names c.in-Ok.rule c.args.body c.args.left c.args.right c.in-Ok.ensures c.requires.over
