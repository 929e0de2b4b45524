use Rattle.std.proofs.Common.{sym, ap, subst, ◌∙◌, List}
use Rattle.std.specs.Result.{IfOk}
use Rattle.esto_term.specs.declared.term.Term.{Term}
use Rattle.esto_semantics.specs.Rules.{Rule, IsEqualityRule, tuple, equality, denial}
use Rattle.esto_semantics.specs.declared.fact.Fact.{Fact}
use Rattle.esto_constraint.specs.Constraints.{rule_of}
use Rattle.esto_constraint.proofs.RuleLemmas.{tuple_sound, equality_sound}
use Rattle.esto_coded.specs.Met.{Judges}
use Rattle.esto_coded.proofs.coded.CodedFacts.judge_rule.Goals as goal

pub meets_tuple-requires : goal.meets_tuple-requires
meets_tuple-requires c =
    let rule = c.in-Tuple.rule in
    rw (c.items.ensures, c.items-in-Tuple.ensures) (tuple_sound rule.body rule.head rule.names rule.sound).rule

pub judge_equality-requires : goal.judge_equality-requires
judge_equality-requires c =
    let rule = c.in-Equal.rule in
    subst (λ (body : List (Fact Term)). IsEqualityRule body rule.left rule.right) (sym c.items-in-Equal.ensures)
    (equality_sound rule.body rule.left rule.right rule.names rule.sound).rule

pub returns-in_ok-met-in-Tuple-clause-judged : goal.returns-in_ok-met-in-Tuple-clause-judged
returns-in_ok-met-in-Tuple-clause-judged c =
    subst (λ (rule : Rule). Judges c.args.self.now rule c.verdict_of.result)
    ((λ i. tuple (c.items.ensures i) (c.items-in-Tuple.ensures i)) ∙ ap rule_of (sym c.in-Tuple.is))
    (c.verdict_of.ensures c.args.self.now (tuple c.items.result.now c.items-in-Tuple.result.now) c.in_ok-met-in-Tuple.ensures.met)

pub returns-in-Equal-clause-judged : goal.returns-in-Equal-clause-judged
returns-in-Equal-clause-judged c =
    subst (λ (rule : Rule). IfOk c.judge_equality.result (Judges c.args.self.now rule))
    (ap (λ (body : List (Fact Term)). equality body c.in-Equal.rule.left c.in-Equal.rule.right) c.items-in-Equal.ensures ∙ ap rule_of (sym c.in-Equal.is))
    c.judge_equality.ensures.judged

pub returns-in_ok-met-in-Never-clause-judged : goal.returns-in_ok-met-in-Never-clause-judged
returns-in_ok-met-in-Never-clause-judged c =
    subst (λ (rule : Rule). Judges c.args.self.now rule c.verdict_of-in-Never.result)
    (ap denial c.items-in-Never.ensures ∙ ap rule_of (sym c.in-Never.is))
    (c.verdict_of-in-Never.ensures c.args.self.now (denial c.items-in-Never.result.now) c.in_ok-met-in-Never.ensures.met)
