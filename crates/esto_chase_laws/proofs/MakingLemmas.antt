-- The frontier of a rule, and the match extended by made terms.
use Rattle.std.proofs.Common.{◌≡◌, ◌⊎◌, ◌≤◌, inl, inr, ℕ, Bool, true, false, cond, List, [], ◌∷◌, map, length, Contains, refl, sym, ap, ◌∙◌, arith}
use Rattle.std.specs.Bool.{Decides}
use Rattle.std.specs.List.{filter}
use Rattle.std.specs.Set.{is_member}
use Rattle.std.proofs.lemmas.Map.Made.{is_member-Decides}
use Rattle.esto_term.specs.Order.{same_term}
use Rattle.esto_term.specs.declared.term.Term.{Term}
use Rattle.esto_term.specs.declared.term.Term.TheVariants.{Const, Plain, Made, outs-Const, outs-Plain}
use Rattle.esto_term.proofs.ListLemmas.{Contains-nil, Contains-flat_from, Contains-filter, Contains-filter_from, map_agree}
use Rattle.esto_semantics.specs.Facts.{Mentions, terms_of}
use Rattle.esto_semantics.specs.Maps.{IsFlat, Keeps}
use Rattle.esto_semantics.specs.declared.fact.Fact.{Fact}
use Rattle.esto_semantics.proofs.CanonicalLemmas.{Mentions-terms_of}
use Rattle.esto_semantics.proofs.TermLemmas.{same_term-Decides}
use Rattle.esto_chase_laws.specs.Making.{is_variable_of, frontier, made_for, extended}
use Rattle.esto_chase_laws.proofs.JoinedLemmas.{joined_from, joined_has, joined_shorter}

pub in_terms-Decides : (atoms : List (Fact Term)) (term : Term) → Decides (is_member same_term (terms_of atoms) term) (Contains (terms_of atoms) term)
in_terms-Decides atoms term = is_member-Decides same_term-Decides (terms_of atoms) term

pub terms_of-Mentions : (atoms : List (Fact Term)) (term : Term) → Contains (terms_of atoms) term → Mentions atoms term
terms_of-Mentions atoms term inside = Contains-flat_from (λ (atom : Fact Term). atom.terms) atoms term inside

-- ---- the frontier

filter_shorter : {X : Type 0} (test : X → Bool) (things : List X) → length (filter test things) ≤ length things
filter_shorter test [] = omega arith
filter_shorter test (first ∷ rest) = by (test first) (filter_shorter test rest)
  where
    by : (answer : Bool) → length (filter test rest) ≤ length rest → length (cond answer (first ∷ filter test rest) (filter test rest)) ≤ length (first ∷ rest)
    by true less = omega arith
    by false less = omega arith

pub frontier_shorter : (body head : List (Fact Term)) → length (frontier body head) ≤ length (terms_of body)
frontier_shorter body head =
    omega (arith, joined_shorter same_term (filter (is_variable_of head) (terms_of body)) [], filter_shorter (is_variable_of head) (terms_of body))

pub frontier_body : (body head : List (Fact Term)) (term : Term) → Contains (frontier body head) term → Mentions body term
frontier_body body head term inside = elim (joined_from same_term same_term-Decides (filter (is_variable_of head) (terms_of body)) [] term inside) [
  | inl none ↦ absurd (Contains-nil term none)
  | inr passed ↦ terms_of-Mentions body term (Contains-filter_from (is_variable_of head) (terms_of body) term passed).0
]

pub frontier_has : (body head : List (Fact Term)) (variable : ℕ) → Mentions body (Plain variable) → Mentions head (Plain variable)
    → Contains (frontier body head) (Plain variable)
frontier_has body head variable in_body in_head =
    let member : is_member same_term (terms_of head) (Plain variable) ≡ true =
    (in_terms-Decides head (Plain variable)).1 (Mentions-terms_of head (Plain variable) in_head) in
    let shared : is_variable_of head (Plain variable) ≡ true = rw (outs-Plain variable, member) refl in
    joined_has same_term same_term-Decides (filter (is_variable_of head) (terms_of body)) [] (Plain variable)
    (inr (Contains-filter (is_variable_of head) (terms_of body) (Plain variable) (Mentions-terms_of body (Plain variable) in_body) shared))

-- ---- made terms

pub made_for-Const : (number : ℕ) (values : List Term) (text : List ℕ) → made_for number values (Const text) ≡ Const text
made_for-Const number values text = rw (outs-Const text) refl

pub made_for-Plain : (number : ℕ) (values : List Term) (variable : ℕ) → made_for number values (Plain variable) ≡ Made number variable values
made_for-Plain number values variable = rw (outs-Plain variable) refl

module _ (number : ℕ) (body head : List (Fact Term)) (m : Term → Term) where
  abbrev pub values : List Term
  values = map m (frontier body head)

  pub extended-body : (term : Term) → Mentions body term → extended number body head m term ≡ m term
  extended-body term inside =
      let member : is_member same_term (terms_of body) term ≡ true = (in_terms-Decides body term).1 (Mentions-terms_of body term inside) in
      ap (λ it. cond it (m term) (made_for number values term)) member

  extended_cases : (term : Term) → (Mentions body term × (extended number body head m term ≡ m term))
      ⊎ ((Mentions body term → ⊥) × (extended number body head m term ≡ made_for number values term))
  extended_cases term = by (is_member same_term (terms_of body) term) refl
    where
      by : (answer : Bool) → is_member same_term (terms_of body) term ≡ answer
          → (Mentions body term × (cond answer (m term) (made_for number values term) ≡ m term))
          ⊎ ((Mentions body term → ⊥) × (cond answer (m term) (made_for number values term) ≡ made_for number values term))
      by true told = inl (terms_of-Mentions body term ((in_terms-Decides body term).0 told), refl)
      by false told = inr ((λ inside. let wrong : true ≡ false = sym ((in_terms-Decides body term).1 (Mentions-terms_of body term inside)) ∙ told in cc), refl)

  pub extended-keeps : Keeps Const m → Keeps Const (extended number body head m)
  extended-keeps keeps text = elim (extended_cases (Const text)) [
    | inl at ↦ at.1 ∙ keeps text
    | inr new ↦ new.1 ∙ made_for-Const number values text
  ]

  -- what a flat term becomes: a constant itself, a term of the body its value, and another variable a made term
  pub extended-flat : (term : Term) → Keeps Const m → IsFlat term
      → ((text : List ℕ) × (term ≡ Const text) × (extended number body head m term ≡ Const text))
      ⊎ ((Mentions body term × (extended number body head m term ≡ m term))
      ⊎ ((variable : ℕ) × (term ≡ Plain variable) × (Mentions body term → ⊥) × (extended number body head m term ≡ Made number variable values)))
  extended-flat term keeps (inl (text, is)) = inl (text, is, ap (extended number body head m) is ∙ extended-keeps keeps text)
  extended-flat term keeps (inr (variable, is)) = elim (extended_cases term) [
    | inl at ↦ inr (inl at)
    | inr new ↦ inr (inr (variable, is, new.0, new.1 ∙ ap (made_for number values) is ∙ made_for-Plain number values variable))
  ]

  pub extended-frontier : map (extended number body head m) (frontier body head) ≡ values
  extended-frontier = map_agree (extended number body head m) m (frontier body head) (λ term inside. extended-body term (frontier_body body head term inside))

  pub extended_agree : (other : Term → Term) → ((term : Term) → Mentions body term → m term ≡ other term)
      → (term : Term) → extended number body head m term ≡ extended number body head other term
  extended_agree other agree term = by (is_member same_term (terms_of body) term) (λ told. terms_of-Mentions body term ((in_terms-Decides body term).0 told))
    where
      by : (answer : Bool) → (answer ≡ true → Mentions body term)
          → cond answer (m term) (made_for number values term) ≡ cond answer (other term) (made_for number (map other (frontier body head)) term)
      by true inside = agree term (inside refl)
      by false inside =
          ap (λ it. made_for number it term) (map_agree m other (frontier body head) (λ shared there. agree shared (frontier_body body head shared there)))
