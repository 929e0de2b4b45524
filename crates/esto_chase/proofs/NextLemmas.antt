-- The first rule that the facts do not meet, of each kind and of all.
use Rattle.std.proofs.Common.{◌≡◌, inl, inr, ℕ, zero, suc, ◌+◌, ◌<◌, ◌≤◌, List, length, slice_get, Option, None, Some, refl, sym, ap, ◌∙◌, subst, arith}
use Rattle.std.specs.FinMap.{empty}
use Rattle.std.specs.Prelude.{IsSome, MatchOption}
use Rattle.std.specs.Ordering.{nat_cmp}
use Rattle.std.proofs.lemmas.Bool.{cases_order, false≢true}
use Rattle.std.proofs.lemmas.List.{length-map}
use Rattle.std.proofs.lemmas.Option.{same_Some, slice_get_within}
use Rattle.std.specs.FinMap.{get-empty}
use Rattle.esto_term.specs.declared.term.Term.{Term}
use Rattle.esto_term.proofs.ListLemmas.{map_at, place-from_Contains}
use Rattle.esto_semantics.specs.Rules.{Rule, tuple, equality, denial, IsMet, AreMet}
use Rattle.esto_semantics.specs.declared.fact.Fact.{Fact}
use Rattle.esto_query.specs.Matches.{IsFound}
use Rattle.esto_semantics.specs.Valuations.{Assignment}
use Rattle.esto_constraint.specs.Constraints.{rule_of, rules_of}
use Rattle.esto_constraint.specs.Matches.{IsLeastActive, LeastActiveIsLeast}
use Rattle.esto_constraint.specs.Tests.{IsOver}
use Rattle.esto_constraint.specs.declared.meeting.Broken.{Broken}
use Rattle.esto_constraint.specs.declared.rule.Constraint.{Constraint}
use Rattle.esto_chase_laws.specs.Runs.{kind_of}
use Rattle.esto_chase_laws.proofs.NextLemmas.{met_has_no_match}
use Rattle.esto_chase.specs.Next.{AreMetBelow, IsFirstOf, IsNextFound}

-- ---- the rules of one kind, one after the other

module _ (rules : List Constraint) (facts : List (Fact Term)) (kind : ℕ) where
  pub none_below : AreMetBelow (rules_of rules) facts kind 0
  none_below number rule below = absurd (omega (arith, below))

  pub at_rule : (number : ℕ) (constraint : Constraint) → slice_get rules number ≡ Some constraint
      → (rule : Rule) → slice_get (rules_of rules) number ≡ Some rule → rule_of constraint ≡ rule
  at_rule number constraint there rule at = same_Some (rule_of constraint) rule (sym (map_at rule_of rules number constraint there) ∙ at)

  pub one_more_below : (number : ℕ) (constraint : Constraint) → slice_get rules number ≡ Some constraint
      → (kind_of (rule_of constraint) ≡ kind → IsMet facts (rule_of constraint)) → AreMetBelow (rules_of rules) facts kind number
      → AreMetBelow (rules_of rules) facts kind (number + 1)
  one_more_below number constraint there met so_far other rule below at is_kind = elim (cases_order other number) [
    | inl same ↦
        let is : rule_of constraint ≡ rule = at_rule number constraint there rule (subst (λ it. slice_get (rules_of rules) it ≡ Some rule) same at) in
        subst (IsMet facts) is (met (ap kind_of is ∙ is_kind))
    | inr apart ↦ elim apart [
      | inl less ↦ so_far other rule less at is_kind
      | inr above ↦ absurd (omega (arith, above, below))
    ]
  ]

  pub first_found : (number : ℕ) (constraint : Constraint) → slice_get rules number ≡ Some constraint → kind_of (rule_of constraint) ≡ kind
      → AreMetBelow (rules_of rules) facts kind number → (valuation : Assignment) (places : List ℕ)
      → IsLeastActive (rule_of constraint) facts valuation places → IsFirstOf (rules_of rules) facts kind number valuation places
  first_found number constraint there is_kind before valuation places active = record {
    rule = rule_of constraint;
    there = map_at rule_of rules number constraint there;
    is_kind = is_kind;
    active = active;
    before = before;
  }

  pub all_below : (bound : ℕ) → length rules ≤ bound → AreMetBelow (rules_of rules) facts kind bound → AreMetBelow (rules_of rules) facts kind (length rules)
  all_below bound most met number rule below = met number rule (omega (arith, most, below))

-- ---- the first of all

module _ (rules : List Constraint) (facts : List (Fact Term)) (kind : ℕ) where
  abbrev pub Met : Type 0
  Met = AreMetBelow (rules_of rules) facts kind (length rules)

  abbrev pub First : Broken → Type 0
  First broken = IsFirstOf (rules_of rules) facts kind broken.rule broken.found.valuation broken.found.places

module _ (law : LeastActiveIsLeast) (rules : List Constraint) (facts : List (Fact Term)) where
  in_rules : (number : ℕ) (rule : Rule) → slice_get (rules_of rules) number ≡ Some rule → number < length rules
  in_rules number rule at = omega (arith, slice_get_within (rules_of rules) number rule at, length-map rules rule_of)

  next_from : (kind number : ℕ) (valuation : Assignment) (places : List ℕ) → ((lesser : ℕ) → lesser < kind → Met rules facts lesser)
      → IsFirstOf (rules_of rules) facts kind number valuation places → IsNextFound (rules_of rules) facts number valuation places
  next_from kind number valuation places lower first =
      let least = law first.rule facts valuation places first.active in record {
        rule = first.rule;
        is_next = record {
          there = first.there;
          active = least.0;
          first = λ other_number other there before other_map others active. elim before [
            | inl below ↦
                let meets = lower (kind_of other) (subst (λ it. kind_of other < it) first.is_kind below)
                other_number other (in_rules other_number other there) there refl in
                met_has_no_match other facts other_map others meets active
            | inr tie ↦ met_has_no_match other facts other_map others (first.before other_number other tie.1 there (tie.0 ∙ first.is_kind)) active
          ];
          least = least.1;
        };
        is_found = first.active.is_found;
      }

  pub equality_next : (number : ℕ) (valuation : Assignment) (places : List ℕ)
      → IsFirstOf (rules_of rules) facts 0 number valuation places → IsNextFound (rules_of rules) facts number valuation places
  equality_next number valuation places first = next_from 0 number valuation places (λ lesser below. absurd (omega (arith, below))) first

  pub denial_next : Met rules facts 0 → (number : ℕ) (valuation : Assignment) (places : List ℕ)
      → IsFirstOf (rules_of rules) facts 1 number valuation places → IsNextFound (rules_of rules) facts number valuation places
  denial_next equalities number valuation places first = next_from 1 number valuation places below first
    where
      below : (lesser : ℕ) → lesser < 1 → Met rules facts lesser
      below zero less = equalities
      below (suc more) less = absurd (omega (arith, less))

  pub tuple_next : Met rules facts 0 → Met rules facts 1 → (number : ℕ) (valuation : Assignment) (places : List ℕ)
      → IsFirstOf (rules_of rules) facts 2 number valuation places → IsNextFound (rules_of rules) facts number valuation places
  tuple_next equalities denials number valuation places first = next_from 2 number valuation places below first
    where
      below : (lesser : ℕ) → lesser < 2 → Met rules facts lesser
      below zero less = equalities
      below (suc zero) less = denials
      below (suc (suc more)) less = absurd (omega (arith, less))

  pub all_met : Met rules facts 0 → Met rules facts 1 → Met rules facts 2 → AreMet facts (rules_of rules)
  all_met equalities denials tuples rule inside = by rule (place-from_Contains (rules_of rules) rule inside)
    where
      by : (rule : Rule) → ((number : ℕ) × (slice_get (rules_of rules) number ≡ Some rule)) → IsMet facts rule
      by (tuple body head) (number, there) = tuples number (tuple body head) (in_rules number (tuple body head) there) there refl
      by (equality body left right) (number, there) = equalities number (equality body left right) (in_rules number (equality body left right) there) there refl
      by (denial body) (number, there) = denials number (denial body) (in_rules number (denial body) there) there refl

  -- what is found of the last kind is what is found of all
  pub last_of_all : Met rules facts 0 → Met rules facts 1 → (outcome : Option Broken)
      → MatchOption outcome (Met rules facts 2) (First rules facts 2)
      → MatchOption outcome (AreMet facts (rules_of rules))
      (λ broken. IsNextFound (rules_of rules) facts broken.rule broken.found.valuation broken.found.places)
  last_of_all equalities denials None met = all_met equalities denials met
  last_of_all equalities denials (Some broken) first = tuple_next equalities denials broken.rule broken.found.valuation broken.found.places first

-- ---- what is known of the match

pub found-IsOver : (body facts : List (Fact Term)) (valuation : Assignment) (places : List ℕ)
    → IsFound body facts empty valuation places → IsOver body valuation
found-IsOver body facts valuation places is_found variable = (
  (λ some. elim ((is_found.variables variable).0 some) [
    | inl before ↦ absurd (false≢true (subst IsSome (get-empty nat_cmp variable) before))
    | inr mentioned ↦ mentioned
  ]),
  (λ mentioned. (is_found.variables variable).1 (inr mentioned)),
)

pub next_within : (rules : List Constraint) (facts : List (Fact Term)) (number : ℕ) (valuation : Assignment) (places : List ℕ)
    → IsNextFound (rules_of rules) facts number valuation places → number < length rules
next_within rules facts number valuation places next =
    omega (arith, slice_get_within (rules_of rules) number next.rule next.is_next.there, length-map rules rule_of)
