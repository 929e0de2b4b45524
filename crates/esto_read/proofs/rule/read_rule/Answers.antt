use Rattle.esto_query.specs.Schemas.{arities_of}
use Rattle.std.proofs.lemmas.Result.{IfOk-weaker, IfErr-weaker}
use Rattle.esto_text.specs.View.{constraint_of}
use Rattle.esto_read.proofs.RuleLemmas.{rule_error}
use Rattle.esto_read.proofs.rule.read_rule.Goals as goal

pub said_rule-requires-clause-text : goal.said_rule-requires-clause-text
said_rule-requires-clause-text c = (c.args.version, c.in_ok-tree.ensures.tree)

pub said_rule-requires-clause-relations : goal.said_rule-requires-clause-relations
said_rule-requires-clause-relations c = rw c.items.ensures c.requires.words.relations

pub said_rule-requires-clause-stands : goal.said_rule-requires-clause-stands
said_rule-requires-clause-stands c = c.in_ok-tree.ensures.tokens

pub returns-clause-reading : goal.returns-clause-reading
returns-clause-reading c =
    IfOk-weaker c.said_rule.result _ _ (λ rule said. (constraint_of c.in_ok-tree.tree, c.in_ok-tree.ensures.tree, said))
    (rw c.items.ensures at c.said_rule.ensures.said)

pub returns-clause-over : goal.returns-clause-over
returns-clause-over c = c.said_rule.ensures.over

pub returns-clause-error : goal.returns-clause-error
returns-clause-error c =
    IfErr-weaker c.said_rule.result _ _ (λ error is. rule_error c.args.version c.args.words.now (arities_of c.args.schema.now) c.args.bytes.now
    (constraint_of c.in_ok-tree.tree) c.in_ok-tree.ensures.tree error is) (rw c.items.ensures at c.said_rule.ensures.error)
