-- Maps of terms that keep constants, of which only finitely many terms count: those that have a property which is decided stand in a list.
use Rattle.std.proofs.Common.{◌≡◌, inl, inr, ℕ, Bool, true, false, cond, List, [], ◌∷◌, map, length, Contains, refl, sym, ap, ◌∙◌, subst, arith}
use Rattle.std.proofs.lemmas.List.{length-map}
use Rattle.esto_term.specs.Finite.{lists_within}
use Rattle.esto_term.specs.Order.{same_term}
use Rattle.esto_term.specs.declared.term.Term.{Term}
use Rattle.esto_term.specs.declared.term.Term.TheVariants.{Const}
use Rattle.esto_term.proofs.ChoiceLemmas.{Decided, kept}
use Rattle.esto_term.proofs.FiniteLemmas.{Contains-lists_within}
use Rattle.esto_term.proofs.ListLemmas.{Contains-nil, Contains-rest, Contains-head, Contains-cases, Contains-map, Contains-map_from}
use Rattle.esto_semantics.specs.Maps.{IsVariable, IsFlat, Keeps}
use Rattle.esto_semantics.proofs.TermLemmas.{term_cases, Const-apart-Plain, Plain-apart-Made, same_term-Decides}

decided_variable : (term : Term) → Decided (IsVariable term)
decided_variable = term_cases (λ term. Decided (IsVariable term))
    (λ text. inr (λ is. Const-apart-Plain text is.0 is.1))
    (λ number. inl (number, refl))
    (λ rule variable frontier. inr (λ is. Plain-apart-Made is.0 rule variable frontier (sym is.1)))

-- each of these maps has the property, and each map that has it agrees with one of them on the terms
pub record AreMaps {V : Type 0} (constant : List ℕ → V) (terms : List Term) (P : (Term → V) → Type 0) (maps : List (Term → V)) : Type 0 where
  pub each : (m : Term → V) → Contains maps m → Keeps constant m × P m
  pub all : (m : Term → V) → Keeps constant m → P m → (other : Term → V) × Contains maps other × ((term : Term) → Contains terms term → m term ≡ other term)

module _ {V : Type 0} (constant : List ℕ → V) (base : Term → V) (base_keeps : Keeps constant base) where
  -- the map with these values for these terms
  abbrev with_values : List Term → List V → Term → V
  with_values [] values term = base term
  with_values (first ∷ terms) [] term = base term
  with_values (first ∷ terms) (value ∷ values) term = cond (same_term first term) value (with_values terms values term)

  with_other : (terms : List Term) (values : List V) (term : Term) → (Contains terms term → ⊥) → with_values terms values term ≡ base term
  with_other [] values term apart = refl
  with_other (first ∷ terms) [] term apart = refl
  with_other (first ∷ terms) (value ∷ values) term apart =
      by (same_term first term) (same_term-Decides first term).0 (with_other terms values term (λ later. apart (Contains-rest first terms term later)))
    where
      by : (answer : Bool) → (answer ≡ true → first ≡ term) → with_values terms values term ≡ base term
          → cond answer value (with_values terms values term) ≡ base term
      by true told later = absurd (apart (subst (Contains (first ∷ terms)) (told refl) (Contains-head first terms)))
      by false told later = later

  with_mapped : (terms : List Term) (m : Term → V) (term : Term) → Contains terms term → with_values terms (map m terms) term ≡ m term
  with_mapped [] m term inside = absurd (Contains-nil term inside)
  with_mapped (first ∷ terms) m term inside =
      by (same_term first term) (same_term-Decides first term) (λ later. with_mapped terms m term later)
    where
      by : (answer : Bool) → (answer ≡ true → first ≡ term) × (first ≡ term → answer ≡ true)
          → (Contains terms term → with_values terms (map m terms) term ≡ m term)
          → cond answer (m first) (with_values terms (map m terms) term) ≡ m term
      by true told later = ap m (told.0 refl)
      by false told later = elim (Contains-cases first terms term inside) [
        | inl is ↦ let wrong : false ≡ true = told.1 is in cc
        | inr further ↦ later further
      ]

  -- ---- the maps that have a property, where it looks at these terms alone and sends them into a list

  module _ (terms : List Term) (flat : (term : Term) → Contains terms term → IsFlat term) (pool : List V) (P : (Term → V) → Type 0)
      (decide : (m : Term → V) → Keeps constant m → Decided (P m))
      (among : (m : Term → V) → P m → (term : Term) → Contains terms term → Contains pool (m term))
      (alike : (m other : Term → V) → Keeps constant m → Keeps constant other → ((term : Term) → Contains terms term → m term ≡ other term) → P m
      → P other) where
    variables : (free : List Term) × ((term : Term) → (Contains free term → Contains terms term × IsVariable term)
        × (Contains terms term × IsVariable term → Contains free term))
    variables = kept IsVariable terms (λ term inside. decided_variable term)

    abbrev at : List V → Term → V
    at values = with_values variables.0 values

    at-keeps : (values : List V) → Keeps constant (at values)
    at-keeps values text =
        with_other variables.0 values (Const text)
        (λ inside. let variable = ((variables.1 (Const text)).0 inside).1 in Const-apart-Plain text variable.0 variable.1)
        ∙ base_keeps text

    at-map : (m : Term → V) → Keeps constant m → (term : Term) → Contains terms term → m term ≡ at (map m variables.0) term
    at-map m keeps term inside = elim (flat term inside) [
      | inl is ↦ ap m is.1 ∙ keeps is.0 ∙ sym (at-keeps (map m variables.0) is.0) ∙ ap (at (map m variables.0)) (sym is.1)
      | inr variable ↦ sym (with_mapped variables.0 m term ((variables.1 term).1 (inside, variable)))
    ]

    abbrev tried : List (List V)
    tried = lists_within pool (length variables.0)

    at-tried : (m : Term → V) → P m → Contains tried (map m variables.0)
    at-tried m has = Contains-lists_within pool (map m variables.0) (length variables.0) (omega (arith, length-map variables.0 m)) (λ value inside.
        let from = Contains-map_from m variables.0 value inside in
        subst (Contains pool) from.2 (among m has from.0 ((variables.1 from.0).0 from.1).0))

    passed : (values : List (List V)) × ((value : List V) → (Contains values value → Contains tried value × P (at value))
        × (Contains tried value × P (at value) → Contains values value))
    passed = kept (λ value. P (at value)) tried (λ value inside. decide (at value) (at-keeps value))

    pub maps_listed : (maps : List (Term → V)) × AreMaps constant terms P maps
    maps_listed = (
      map at passed.0,
      record {
        each = λ m inside.
            let from = Contains-map_from at passed.0 m inside in
            subst (λ it. Keeps constant it × P it) from.2 (at-keeps from.0, ((passed.1 from.0).0 from.1).1);
        all = λ m keeps has. (
          at (map m variables.0),
          Contains-map at passed.0 (map m variables.0)
              ((passed.1 (map m variables.0)).1 (at-tried m has, alike m (at (map m variables.0)) keeps (at-keeps (map m variables.0)) (at-map m keeps) has)),
          at-map m keeps,
        );
      },
    )

    pub map_decided : Decided ((m : Term → V) × Keeps constant m × P m)
    map_decided = by maps_listed.0 maps_listed.1
      where
        by : (maps : List (Term → V)) → AreMaps constant terms P maps → Decided ((m : Term → V) × Keeps constant m × P m)
        by [] are = inr (λ found. let (m, keeps, has) = found in let other = are.all m keeps has in Contains-nil other.0 other.1)
        by (first ∷ rest) are = let has = are.each first (Contains-head first rest) in inl (first, has.0, has.1)
