use Rattle.std.proofs.Common.{◌≡◌, Contains, refl, sym, ◌∙◌, subst}
use Rattle.std.proofs.lemmas.Bool.{false≢true}
use Rattle.esto_constraint.specs.Constraints.{rule_of, rules_of}
use Rattle.esto_constraint.specs.declared.rule.Constraint.{Constraint}
use Rattle.esto_term.proofs.ListLemmas.{Contains-map, Contains-map_from, Contains-read, holds_more_in, none_holds}
use Rattle.esto_fill.proofs.tried.is_law.Goals as goal

pub returns-then-is_same_rule : goal.returns-then-is_same_rule
returns-then-is_same_rule c = (
  (λ yes. subst (Contains (rules_of c.args.laws.now)) (sym (c.is_same_rule.ensures.0 c.if-is_same_rule.true))
      (Contains-map rule_of c.args.laws.now c.law-item.result
      (Contains-read c.args.laws.now c.laws.law-index c.law-item.result c.laws-test.true c.law-item.is))),
  (λ there. refl),
)

pub laws-preserved : goal.laws-preserved
laws-preserved c =
    holds_more_in (λ _ (law : Constraint). rule_of c.args.rule.now ≡ rule_of law → ⊥) c.args.laws.now c.args.laws.now refl _ _ c.laws-test.true c.law-item.is
    c.laws.invariant (λ same. false≢true (sym c.if-is_same_rule.false ∙ c.is_same_rule.ensures.1 same))

pub returns : goal.returns
returns c = (
  (λ wrong. absurd (false≢true wrong)),
  (λ inside.
      let from = Contains-map_from rule_of c.args.laws.now (rule_of c.args.rule.now) inside in
      absurd (none_holds (λ (law : Constraint). rule_of c.args.rule.now ≡ rule_of law) c.args.laws.now c.args.laws.now refl c.laws.law-index
      c.laws-test.false c.laws.invariant from.0 from.1 (sym from.2))),
)
