-- What every rule keeps.
use Rattle.std.proofs.Common.{◌≡◌, ◌≢◌, List, [], ◌∷◌, Contains, sym, inl, inr, subst}
use Rattle.std.proofs.Math.Logic.{∥∥₁_map, ∥∥₁_prop}
use Rattle.std.proofs.Math.Path.{to_path_p}
use Rattle.esto_term.specs.declared.term.Term.{Term}
use Rattle.esto_term.specs.declared.term.Term.TheVariants.{Const}
use Rattle.esto_semantics.specs.Maps.{IsFlat, AreFlat, IsFixedBy}
use Rattle.esto_semantics.specs.Rules.{IsRule, AreRules}
use Rattle.esto_semantics.specs.declared.fact.Fact.{Fact}
use Rattle.esto_query.specs.Soundness.{AreNamed, IsSound}
use Rattle.esto_query.specs.declared.query.Name.{Name}
use Rattle.esto_query.proofs.SoundLemmas.{sound_of}
use Rattle.esto_constraint.specs.Soundness.{IsSoundTuple, IsSoundEquality, IsSoundDenial}
use Rattle.esto_constraint.specs.Constraints.{rule_of, rules_of}
use Rattle.esto_semantics.specs.Rules.{body_of}
use Rattle.esto_constraint.specs.declared.rule.Tgd.{Tgd}
use Rattle.esto_constraint.specs.declared.rule.Egd.{Egd}
use Rattle.esto_constraint.specs.declared.rule.Denial.{Denial}
use Rattle.esto_constraint.specs.declared.rule.Constraint.{Constraint}
use Rattle.esto_constraint.specs.declared.rule.Constraint.TheVariants.{Tuple, Equal, Never}
use Rattle.esto_term.proofs.ListLemmas.{Contains-cases, Contains-head, Contains-nil, Contains-rest, Contains-map_from}

-- ---- the atoms of a rule are the body of a query

-- a head of one constant
abbrev constant : List Term
constant = Const [] ∷ []

constant_only : (term : Term) → Contains constant term → term ≡ Const []
constant_only term inside = elim (Contains-cases (Const []) [] term inside) [
  | inl same ↦ sym same
  | inr none ↦ absurd (Contains-nil term none)
]

with_constant : (body : List (Fact Term)) (names : List Name) → body ≢ [] → AreFlat body → AreNamed names body → IsSound constant body names
with_constant body names some flat named = record {
  query = record {
    has_head = λ none. cc;
    has_body = some;
    flat_head = λ term inside. inl ([], constant_only term inside);
    flat_body = flat;
    safe = λ term inside. inl ([], constant_only term inside);
  };
  named = named;
}

pub flat_fixed : (body : List (Fact Term)) (term : Term) → AreFlat body → IsFixedBy body term → IsFlat term
flat_fixed body term flat (inl is_constant) = inl is_constant
flat_fixed body term flat (inr mentioned) = flat term mentioned

of_sides : (P : Term → Type 0) (left right term : Term) → P left → P right → Contains (left ∷ right ∷ []) term → P term
of_sides P left right term one two inside = elim (Contains-cases left (right ∷ []) term inside) [
  | inl same ↦ subst P same one
  | inr later ↦ elim (Contains-cases right [] term later) [
    | inl same ↦ subst P same two
    | inr none ↦ absurd (Contains-nil term none)
  ]
]

pub with_sides : (body : List (Fact Term)) (left right : Term) (names : List Name) → IsSoundEquality body left right names
    → IsSound (left ∷ right ∷ []) body names
with_sides body left right names kept = record {
  query = record {
    has_head = λ none. cc;
    has_body = kept.rule.has_body;
    flat_head = λ term inside.
        of_sides IsFlat left right term (flat_fixed body left kept.rule.flat_body kept.rule.left_fixed)
        (flat_fixed body right kept.rule.flat_body kept.rule.right_fixed) inside;
    flat_body = kept.rule.flat_body;
    safe = λ term inside. of_sides (IsFixedBy body) left right term kept.rule.left_fixed kept.rule.right_fixed inside;
  };
  named = kept.named;
}

-- ---- what a rule keeps

pub tuple_sound : (body head : List (Fact Term)) (names : List Name) → ∥ IsSoundTuple body head names ∥₁ → IsSoundTuple body head names
tuple_sound body head names sound =
    let of_body = sound_of constant body names
    (∥∥₁_map sound (λ (kept : IsSoundTuple body head names). with_constant body names kept.rule.has_body kept.rule.flat_body kept.body_named)) in
    let of_head = sound_of constant head names
    (∥∥₁_map sound (λ (kept : IsSoundTuple body head names). with_constant head names kept.rule.has_head kept.rule.flat_head kept.head_named)) in
    record {
      rule = record {
        has_body = of_body.query.has_body;
        has_head = of_head.query.has_body;
        flat_body = of_body.query.flat_body;
        flat_head = of_head.query.flat_body;
      };
      body_named = of_body.named;
      head_named = of_head.named;
    }

pub equality_sound : (body : List (Fact Term)) (left right : Term) (names : List Name) → ∥ IsSoundEquality body left right names ∥₁
    → IsSoundEquality body left right names
equality_sound body left right names sound =
    let whole = sound_of (left ∷ right ∷ []) body names
    (∥∥₁_map sound (λ (kept : IsSoundEquality body left right names). with_sides body left right names kept)) in
    record {
      rule = record {
        has_body = whole.query.has_body;
        flat_body = whole.query.flat_body;
        left_fixed = whole.query.safe left (Contains-head left (right ∷ []));
        right_fixed = whole.query.safe right (Contains-rest left (right ∷ []) right (Contains-head right []));
      };
      named = whole.named;
    }

pub denial_sound : (body : List (Fact Term)) (names : List Name) → ∥ IsSoundDenial body names ∥₁ → IsSoundDenial body names
denial_sound body names sound =
    let whole = sound_of constant body names
    (∥∥₁_map sound (λ (kept : IsSoundDenial body names). with_constant body names kept.rule.has_body kept.rule.flat_body kept.named)) in
    record {
      rule = record { has_body = whole.query.has_body; flat_body = whole.query.flat_body };
      named = whole.named;
    }

pub is_rule : (constraint : Constraint) → IsRule (rule_of constraint)
is_rule (Tuple rule) = (tuple_sound rule.body rule.head rule.names rule.sound).rule
is_rule (Equal rule) = (equality_sound rule.body rule.left rule.right rule.names rule.sound).rule
is_rule (Never rule) = (denial_sound rule.body rule.names rule.sound).rule

pub flat_body : (constraint : Constraint) → AreFlat (body_of (rule_of constraint))
flat_body (Tuple rule) = (tuple_sound rule.body rule.head rule.names rule.sound).rule.flat_body
flat_body (Equal rule) = (equality_sound rule.body rule.left rule.right rule.names rule.sound).rule.flat_body
flat_body (Never rule) = (denial_sound rule.body rule.names rule.sound).rule.flat_body

-- the meaning of each constraint is a rule, so that of a list of them is a list of rules
pub are_rules : ((constraint : Constraint) → IsRule (rule_of constraint)) → (rules : List Constraint) → AreRules (rules_of rules)
are_rules each rules rule inside = let found = Contains-map_from rule_of rules rule inside in subst IsRule found.2 (each found.0)

-- ---- rules of the same parts are the same

pub same_tuple : (one other : Tgd) → one.body ≡ other.body → one.head ≡ other.head → one.names ≡ other.names → one ≡ other
same_tuple one other body head names = λ i. record {
  body = body i;
  head = head i;
  names = names i;
  sound = to_path_p (λ j. ∥ IsSoundTuple (body j) (head j) (names j) ∥₁) {a = one.sound} {b = other.sound} (∥∥₁_prop _ other.sound) i;
}

pub same_equality : (one other : Egd) → one.body ≡ other.body → one.left ≡ other.left → one.right ≡ other.right → one.names ≡ other.names → one ≡ other
same_equality one other body left right names = λ i. record {
  body = body i;
  left = left i;
  right = right i;
  names = names i;
  sound = to_path_p (λ j. ∥ IsSoundEquality (body j) (left j) (right j) (names j) ∥₁) {a = one.sound} {b = other.sound} (∥∥₁_prop _ other.sound) i;
}

pub same_denial : (one other : Denial) → one.body ≡ other.body → one.names ≡ other.names → one ≡ other
same_denial one other body names = λ i. record {
  body = body i;
  names = names i;
  sound = to_path_p (λ j. ∥ IsSoundDenial (body j) (names j) ∥₁) {a = one.sound} {b = other.sound} (∥∥₁_prop _ other.sound) i;
}
