-- A rule as it is lent, the least active match of a rule, and the first rule that is broken.
use Rattle.std.proofs.Common.{◌≡◌, ℕ, ◌+◌, ◌≤◌, List, length, take, Option, Some, None, IsSome, sym, ap, subst, ◌∙◌, inl, inr}
use Rattle.std.specs.List.{slice_get}
use Rattle.std.specs.Option.{MatchOption, option_map}
use Rattle.std.specs.FinMap.{empty, get-empty}
use Rattle.std.specs.Ordering.{nat_cmp}
use Rattle.std.proofs.lemmas.Bool.{false≢true}
use Rattle.std.proofs.lemmas.Option.{none-some, slice_get_within, slice_get-map, get_or_from_slice_get}
use Rattle.std.proofs.lemmas.List.{length-map}
use Rattle.esto_term.specs.declared.term.Term.{Term}
use Rattle.esto_term.proofs.ListLemmas.{each_more, each_seen}
use Rattle.esto_semantics.specs.Maps.{AreFlat}
use Rattle.esto_semantics.specs.Rules.{Rule, body_of, IsMet, AreMet}
use Rattle.esto_semantics.specs.declared.fact.Fact.{Fact}
use Rattle.esto_query.specs.Active.{Completes, NoneIsActive, IsLeastActiveFrom}
use Rattle.esto_semantics.specs.Valuations.{Assignment, Extends}
use Rattle.esto_query.specs.declared.matches.Found.{Found}
use Rattle.esto_query.proofs.MatchLemmas.{found_variables}
use Rattle.esto_constraint.specs.Constraints.{rule_of, rules_of}
use Rattle.esto_constraint.specs.Matches.{IsLeastActive, IsFirstBroken}
use Rattle.esto_constraint.specs.declared.rule.Constraint.{Constraint}

-- ---- where nothing is known at the start

abbrev none : Assignment
none = empty {R = nat_cmp}

any_extends : (m : Term → Term) → Extends m none
any_extends m variable term at = absurd (none-some term (sym (get-empty nat_cmp variable) ∙ at))

pub whole_completes : (body : List (Fact Term)) → Completes none body body
whole_completes body variable = (
  λ either. elim either [
    | inl some ↦ absurd (false≢true (subst IsSome (get-empty nat_cmp variable) some))
    | inr at ↦ at
  ],
  λ at. inr at,
)

least_of_all : (facts : List (Fact Term)) (rule : Rule) (valuation : Assignment) (places : List ℕ) → AreFlat (body_of rule)
    → IsLeastActiveFrom facts rule none (body_of rule) valuation places → IsLeastActive rule facts valuation places
least_of_all facts rule valuation places flat least = record {
  is_found = record {
    exact = least.exact;
    variables = λ variable. found_variables (body_of rule) facts none valuation places flat least.exact variable;
  };
  active = least.active;
  least = λ m others keeps match fails. least.least m others keeps (any_extends m) match fails;
}

pub outcome_of_all : (facts : List (Fact Term)) (rule : Rule) → AreFlat (body_of rule) → (outcome : Option Found)
    → MatchOption outcome (NoneIsActive facts rule none (body_of rule))
    (λ found. IsLeastActiveFrom facts rule none (body_of rule) found.valuation found.places)
    → MatchOption outcome (IsMet facts rule) (λ found. IsLeastActive rule facts found.valuation found.places)
outcome_of_all facts rule flat None none_active = λ m keeps sends. none_active m keeps (any_extends m) sends
outcome_of_all facts rule flat (Some found) least = least_of_all facts rule found.valuation found.places flat least

-- ---- the loop over rules

module _ (facts : List (Fact Term)) (rules : List Constraint) (number : ℕ) where
  rule_at : (constraint : Constraint) → slice_get rules number ≡ Some constraint → slice_get (rules_of rules) number ≡ Some (rule_of constraint)
  rule_at constraint at = slice_get-map rule_of rules number ∙ ap (option_map rule_of) at

  pub met_more : (constraint : Constraint) → slice_get rules number ≡ Some constraint → IsMet facts (rule_of constraint)
      → AreMet facts (take number (rules_of rules)) → AreMet facts (take (number + 1) (rules_of rules))
  met_more constraint at here before =
      each_more (IsMet facts) (rules_of rules) number (rule_of constraint)
      (slice_get_within (rules_of rules) number (rule_of constraint) (rule_at constraint at))
      (sym (get_or_from_slice_get (rules_of rules) number (rule_of constraint) (rule_of constraint) (rule_at constraint at)))
      here before

  pub met_all : length rules ≤ number → AreMet facts (take number (rules_of rules)) → AreMet facts (rules_of rules)
  met_all all before = each_seen (IsMet facts) (rules_of rules) number (subst (λ long. long ≤ number) (sym (length-map rules rule_of)) all) before

  pub first_broken : (constraint : Constraint) (valuation : Assignment) (places : List ℕ) → slice_get rules number ≡ Some constraint
      → IsLeastActive (rule_of constraint) facts valuation places → AreMet facts (take number (rules_of rules))
      → IsFirstBroken (rules_of rules) facts number valuation places
  first_broken constraint valuation places at active before = record {
    rule = rule_of constraint;
    there = rule_at constraint at;
    active = active;
    before = before;
  }
