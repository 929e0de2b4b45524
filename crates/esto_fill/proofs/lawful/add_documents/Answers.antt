use Rattle.std.proofs.Common.{ap, ◌∙◌}
use Rattle.std.proofs.lemmas.List.{map-append}
use Rattle.std.proofs.lemmas.Result.{on_ok_weaker}
use Rattle.esto_constraint.specs.Constraints.{rule_of, rules_of}
use Rattle.esto_fill.proofs.LawfulLemmas.{laws_more}
use Rattle.esto_fill.proofs.lawful.add_documents.Goals as goal

pub returns-then-not-is_alone : goal.returns-then-not-is_alone
returns-then-not-is_alone c = λ before. before

pub returns : goal.returns
returns c = on_ok_weaker c.append.result
    (λ put. laws_more c.args.datasets.now c.args.number c.args.dataset.now (rules_of c.args.rules.now) (rules_of c.append.new.self)
    (rules_of c.in_ok-laws.laws) c.requires.there c.requires.model (c.is_alone.ensures c.if-not-is_alone.false)
    c.in_ok-laws.ensures.rules
    (ap rules_of put ∙ map-append rule_of c.args.rules.now c.in_ok-laws.laws)) c.append.ensures.ok
