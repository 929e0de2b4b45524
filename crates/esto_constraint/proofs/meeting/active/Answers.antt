use Rattle.std.proofs.Common.{List, subst}
use Rattle.std.specs.Option.{MatchOption}
use Rattle.std.specs.Result.{IfOk}
use Rattle.esto_term.specs.declared.term.Term.{Term}
use Rattle.esto_semantics.specs.declared.fact.Fact.{Fact}
use Rattle.esto_constraint.specs.Constraints.{rule_of}
use Rattle.esto_constraint.specs.Matches.{IsLeastActive}
use Rattle.esto_semantics.specs.Rules.{IsMet}
use Rattle.esto_constraint.proofs.meeting.active.Goals as goal

pub returns : goal.returns
returns c =
    subst (λ (facts : List (Fact Term)). IfOk c.active_in.result (λ outcome. MatchOption outcome (IsMet facts (rule_of c.args.rule.now))
    (λ found. IsLeastActive (rule_of c.args.rule.now) facts found.valuation found.places)))
    c.in_ok-indexed.ensures c.active_in.ensures
