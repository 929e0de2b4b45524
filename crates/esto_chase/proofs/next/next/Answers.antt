use Rattle.std.proofs.Common.{MatchOption, List}
use Rattle.std.specs.Result.{IfOk}
use Rattle.esto_constraint.specs.Constraints.{rules_of}
use Rattle.esto_semantics.specs.Rules.{AreMet}
use Rattle.esto_chase.specs.Next.{IsNextFound}
use Rattle.std.proofs.Common.{subst}
use Rattle.esto_term.specs.declared.term.Term.{Term}
use Rattle.esto_semantics.specs.declared.fact.Fact.{Fact}
use Rattle.esto_chase.proofs.next.next.Goals as goal

-- src/next.rt:85:1
pub returns : goal.returns
returns c = subst (λ (facts : List (Fact Term)). IfOk c.next_in-found.result (λ outcome. MatchOption outcome
    (AreMet facts (rules_of c.args.rules.now))
    (λ broken. IsNextFound (rules_of c.args.rules.now) facts broken.rule broken.found.valuation broken.found.places)))
    c.in_ok-indexed.ensures c.next_in-found.ensures
