-- Rules that are rules, and ranks that rise and are small.
use Rattle.std.proofs.Common.{◌≡◌, ℕ, ◌-◌, ◌<◌, ◌≤◌, List, length, get_or, refl, subst, arith, inl, inr}
use Rattle.std.specs.Prelude.{slice_index}
use Rattle.std.proofs.Math.ListN.{get_or-eq_default}
use Rattle.std.proofs.lemmas.Bool.{cases_lt}
use Rattle.esto_term.specs.Nesting.{greatest_u64}
use Rattle.esto_term.proofs.ListLemmas.{Contains-map_from}
use Rattle.esto_semantics.specs.Rules.{Rule, IsRule, AreRules}
use Rattle.esto_constraint.specs.Constraints.{rule_of, rules_of}
use Rattle.esto_constraint.specs.declared.rule.Constraint.{Constraint}
use Rattle.esto_constraint.specs.Relations.{IsEdge}
use Rattle.esto_chase_laws.specs.Bounds.{RanksRise}

pub rules-AreRules : (rules : List Constraint) → ((constraint : Constraint) → IsRule (rule_of constraint)) → AreRules (rules_of rules)
rules-AreRules rules sound rule inside = let from = Contains-map_from rule_of rules rule inside in subst IsRule from.2 (sound from.0)

pub ranks-RanksRise : (rules : List Rule) (ranks : List ℕ) → ((from to : ℕ) → IsEdge rules from to → slice_index ranks from < slice_index ranks to)
    → RanksRise rules (slice_index ranks)
ranks-RanksRise rules ranks rise body head inside atom made in_body in_head =
    rise atom.relation made.relation (body, head, inside, (atom, in_body, refl), (made, in_head, refl))

-- the greatest that a rank may be
abbrev pub depth_of : List ℕ → ℕ
depth_of ranks = length ranks - 1

pub ranks-small : (ranks : List ℕ) → ((relation : ℕ) → relation < length ranks → slice_index ranks relation < length ranks)
    → (relation : ℕ) → slice_index ranks relation ≤ depth_of ranks
ranks-small ranks small relation = elim (cases_lt relation (length ranks)) [
  | inl within ↦ omega (arith, small relation within)
  | inr past ↦ let none : get_or ranks relation 0 ≡ 0 = get_or-eq_default ranks 0 past in omega (arith, none)
]

pub depth-small : (ranks : List ℕ) (count : ℕ) → count ≡ length ranks → count ≤ 18446744073709551615 → depth_of ranks < greatest_u64
depth-small ranks count is fits = omega (arith, is, fits)
