-- What is done at the match that is next is a step, or the clash.
use Rattle.std.proofs.Common.{◌≡◌, ◌≢◌, ℕ, List, [], ◌∷◌, ◌++◌, slice_get, Option, None, Some, Result, Ok, Err, IfOk, MatchOption, sym, ◌∙◌, subst}
use Rattle.std.proofs.lemmas.Option.{same_Some}
use Rattle.esto_term.specs.declared.term.Term.{Term}
use Rattle.esto_term.specs.declared.term.Term.TheVariants.{Const}
use Rattle.esto_term.specs.Order.{term_cmp}
use Rattle.esto_term.proofs.ListLemmas.{map_at}
use Rattle.esto_semantics.specs.Rules.{Rule, tuple, equality, denial, body_of}
use Rattle.esto_semantics.specs.declared.fact.Fact.{Fact}
use Rattle.esto_semantics.specs.Valuations.{map_of}
use Rattle.esto_query.specs.declared.matches.Found.{Found}
use Rattle.esto_constraint.specs.Constraints.{rule_of, rules_of}
use Rattle.esto_constraint.specs.Tests.{IsOver}
use Rattle.esto_constraint.specs.declared.rule.Constraint.{Constraint}
use Rattle.esto_chase_laws.specs.Joined.{joined}
use Rattle.esto_chase_laws.specs.Making.{made_facts}
use Rattle.esto_chase_laws.specs.Runs.{AreSides, IsNext, HasClashed}
use Rattle.esto_chase_laws.specs.declared.clash.Clash.{Clash}
use Rattle.esto_chase_laws.specs.declared.clash.Clash.TheVariants.{Equal, Denied}
use Rattle.esto_instance.specs.Instances.{state_of, trace_of}
use Rattle.esto_instance.specs.declared.instance.ChaseStep.TheVariants.{Added, Merged}
use Rattle.esto_instance.specs.declared.instance.Instance.{Instance}
use Rattle.esto_chase.specs.Next.{IsNextFound}
use Rattle.esto_chase.specs.Steps.{Merges, Clashes, IsTaken}
use Rattle.esto_chase.proofs.NextLemmas.{found-IsOver}

-- ---- outcomes

-- what follows for an answer that is there
pub on_ok : {T E : Type 0} {P Q : T → Type 0} (outcome : Result T E) → ((thing : T) → P thing → Q thing) → IfOk outcome P → IfOk outcome Q
on_ok (Ok thing) on told = on thing told
on_ok (Err wrong) on told = told

-- what follows for either outcome
pub on_option : {T : Type 0} {P Q : Type 0} {R S : T → Type 0} (outcome : Option T) → (P → Q) → ((thing : T) → R thing → S thing)
    → MatchOption outcome P R → MatchOption outcome Q S
on_option None none some told = none told
on_option (Some thing) none some told = some thing told

-- ---- steps

module _ (rules : List Constraint) (old : Instance) (number : ℕ) (found : Found)
    (next : IsNextFound (rules_of rules) (state_of old).body number found.valuation found.places)
    (constraint : Constraint) (there : slice_get rules number ≡ Some constraint) where
  is_rule : next.rule ≡ rule_of constraint
  is_rule = same_Some next.rule (rule_of constraint) (sym next.is_next.there ∙ map_at rule_of rules number constraint there)

  is_next : (rule : Rule) → rule_of constraint ≡ rule → IsNext (rules_of rules) (state_of old).body number rule (map_of found.valuation) found.places
  is_next rule is = subst (λ it. IsNext (rules_of rules) (state_of old).body number it (map_of found.valuation) found.places) (is_rule ∙ is) next.is_next

  pub is_over : (rule : Rule) → rule_of constraint ≡ rule → IsOver (body_of rule) found.valuation
  is_over rule is = subst (λ it. IsOver (body_of it) found.valuation) (is_rule ∙ is)
      (found-IsOver (body_of next.rule) (state_of old).body found.valuation found.places next.is_found)

  pub denied : (body : List (Fact Term)) → rule_of constraint ≡ denial body → HasClashed (rules_of rules) (state_of old) (Denied number)
  denied body is = record { body = body; m = map_of found.valuation; places = found.places; is_next = is_next (denial body) is }

  module _ (body : List (Fact Term)) (left right : Term) (is : rule_of constraint ≡ equality body left right) where
    pub sides_differ : map_of found.valuation left ≢ map_of found.valuation right
    sides_differ same = (is_next (equality body left right) is).active.active same

    pub merged-IsTaken : (new : Instance) → Merges left right number found old new → IsTaken (rules_of rules) old new
    merged-IsTaken new merges = record {
      step = Merged number found merges.from merges.to;
      trace = merges.trace;
      is_step = record {
        body = body;
        left = left;
        right = right;
        is_next = is_next (equality body left right) is;
        sides = merges.sides;
        lesser = merges.lesser;
        no_constant = merges.no_constant;
        facts = merges.facts;
        replaced_head = merges.head;
      };
    }

    pub clashes-HasClashed : (clash : Clash) → Clashes left right found clash → HasClashed (rules_of rules) (state_of old) clash
    clashes-HasClashed clash clashes = by clashes.texts
      where
        by : (text : List ℕ) × (other_text : List ℕ) × (clashes.to ≡ Const text) × (clashes.from ≡ Const other_text) × (clash ≡ Equal text other_text)
            → HasClashed (rules_of rules) (state_of old) clash
        by (text, other_text, to_is, from_is, clash_is) = subst (HasClashed (rules_of rules) (state_of old)) (sym clash_is) (record {
          number = number;
          body = body;
          left = left;
          right = right;
          m = map_of found.valuation;
          places = found.places;
          is_next = is_next (equality body left right) is;
          sides = subst (λ (it : Term × Term). AreSides (map_of found.valuation) left right it.0 it.1) (λ i. (to_is i, from_is i)) clashes.sides;
          lesser = sym (λ i. term_cmp (to_is i) (from_is i)) ∙ clashes.lesser;
        })

  pub added-IsTaken : (body head : List (Fact Term)) → rule_of constraint ≡ tuple body head → (new : Instance)
      → (state_of new).body ≡ joined (state_of old).body (made_facts number body head (map_of found.valuation)) → (state_of new).head ≡ (state_of old).head
      → trace_of new ≡ trace_of old ++ Added number found ∷ [] → IsTaken (rules_of rules) old new
  added-IsTaken body head is new facts kept trace = record {
    step = Added number found;
    trace = trace;
    is_step = record { body = body; head = head; is_next = is_next (tuple body head) is; facts = facts; kept_head = kept };
  }
