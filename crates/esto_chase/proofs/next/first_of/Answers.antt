use Rattle.esto_constraint.specs.Constraints.{rule_of}
use Rattle.esto_chase.specs.Next.{number_of}
use Rattle.std.proofs.Common.{sym, ◌∙◌}
use Rattle.std.proofs.lemmas.Bool.{false≢true}
use Rattle.std.proofs.lemmas.Option.{MatchOption-at_none}
use Rattle.esto_constraint.specs.Matches.{IsLeastActive}
use Rattle.esto_semantics.specs.Rules.{IsMet}
use Rattle.esto_chase.proofs.NextLemmas.{one_more_below}
use Rattle.esto_chase.proofs.next.first_of.Goals.{then-is_of+in_ok-outcome+in_default, else-is_of}
use Rattle.esto_chase.proofs.next.first_of.Goals as goal

-- src/next.rt:45:5
pub rules-preserved : goal.rules-preserved
rules-preserved c = one_more_below c.args.rules.now c.args.facts.now (number_of c.args.kind) c.rules.number c.item-rule.result.now c.item-rule.ensures
    (λ is. elim c.if-is_of.branch [
      | then-is_of+in_ok-outcome+in_default w ↦ MatchOption-at_none (IsMet c.args.facts.now (rule_of c.item-rule.result.now))
          (λ found. IsLeastActive (rule_of c.item-rule.result.now) c.args.facts.now found.valuation found.places) w.in_default.is w.in_ok-outcome.ensures
      | else-is_of w ↦ absurd (false≢true (sym w.if-is_of.false ∙ c.is_of.ensures.1 is))
    ]) c.rules.invariant
