use Rattle.std.proofs.Common.{List, subst}
use Rattle.std.specs.Option.{MatchOption}
use Rattle.std.specs.Result.{IfOk}
use Rattle.esto_term.specs.declared.term.Term.{Term}
use Rattle.esto_semantics.specs.declared.fact.Fact.{Fact}
use Rattle.esto_constraint.specs.Constraints.{rules_of}
use Rattle.esto_constraint.specs.Matches.{IsFirstBroken}
use Rattle.esto_semantics.specs.Rules.{AreMet}
use Rattle.esto_constraint.proofs.meeting.meets.Goals as goal

pub returns : goal.returns
returns c =
    subst (λ (facts : List (Fact Term)). IfOk c.first_broken.result (λ outcome. MatchOption outcome (AreMet facts (rules_of c.args.rules.now))
    (λ broken. IsFirstBroken (rules_of c.args.rules.now) facts broken.rule broken.found.valuation broken.found.places)))
    c.in_ok-indexed.ensures c.first_broken.ensures
