use Rattle.std.proofs.Common.{◌++◌, sym, subst}
use Rattle.esto_constraint.specs.Constraints.{rule_of, rules_of}
use Rattle.esto_condchase.specs.Rounds.{IsRuleAnswered}
use Rattle.esto_condchase.proofs.AskLemmas.{AsksMore-none}
use Rattle.esto_condchase.proofs.RoundLemmas.{IsRuleAnswered-denial}
use Rattle.esto_condchase.proofs.rounds.answer_rule.Goals as goal

pub returns-in-Never-clause-grows : goal.returns-in-Never-clause-grows
returns-in-Never-clause-grows c = AsksMore-none (rules_of c.args.rules.now) c.args.count c.args.entries.now c.args.more.now

pub returns-in-Never-clause-answered : goal.returns-in-Never-clause-answered
returns-in-Never-clause-answered c =
    subst (λ it. IsRuleAnswered c.args.entries.now (c.args.entries.now ++ c.args.more.now) c.args.number (rule_of it)) (sym c.in-Never.is)
    (IsRuleAnswered-denial c.args.entries.now (c.args.entries.now ++ c.args.more.now) c.args.number _)
