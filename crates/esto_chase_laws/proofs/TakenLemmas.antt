-- What terms meet first.
use Rattle.std.proofs.Common.{◌≡◌, ◌⊎◌, inl, inr, ℕ, Bool, true, false, cond, List, [], ◌∷◌, ◌++◌, map, length, Contains, refl, sym, ap, ◌∙◌, subst, arith}
use Rattle.std.specs.List.{AllZip}
use Rattle.std.proofs.lemmas.List.{map-append, length-map}
use Rattle.esto_term.specs.declared.term.Term.{Term, out-Term}
use Rattle.esto_term.specs.declared.term.Term.TheVariants.{Const, Plain, Made, outs-Const, outs-Plain, outs-Made}
use Rattle.esto_semantics.specs.Maps.{IsConstant}
use Rattle.esto_term.proofs.ListLemmas.{Contains-nil, Contains-head, Contains-rest, Contains-cases, map_agree}
use Rattle.esto_term.proofs.ZipLemmas.{zip_append, zip_split}
use Rattle.esto_term.specs.Order.{same_term}
use Rattle.esto_semantics.proofs.TermLemmas.{term_cases, same_term-Decides}
use Rattle.esto_semantics.specs.Spreads.{substituted}
use Rattle.esto_chase_laws.specs.WorldMatches.{unless_constant, taken, Fits}

-- a constant meets itself first; of every other term the first place tells
pub taken-Const : (from to : List Term) (text : List ℕ) → taken from to (Const text) ≡ Const text
taken-Const from to text = ap (λ level. unless_constant level (Const text) (substituted from to (Const text))) (outs-Const text)

pub taken_cases : (term : Term) → IsConstant term ⊎ ((from to : List Term) → taken from to term ≡ substituted from to term)
taken_cases = term_cases (λ term. IsConstant term ⊎ ((from to : List Term) → taken from to term ≡ substituted from to term))
    (λ text. inl (text, refl))
    (λ number. inr (λ from to. ap (λ level. unless_constant level (Plain number) (substituted from to (Plain number))) (outs-Plain number)))
    (λ rule variable frontier. inr
    (λ from to. ap (λ level. unless_constant level (Made rule variable frontier) (substituted from to (Made rule variable frontier)))
    (outs-Made rule variable frontier)))

-- a property of what stands at one place of both lists holds of a term of the first and what it is substituted by
pub substituted_has : (P : Term → Term → Type 0) (from to : List Term) → AllZip (λ (target : Term) (source : Term). P source target) to from
    → (term : Term) → Contains from term → P term (substituted from to term)
substituted_has P [] to z term c = absurd (Contains-nil term c)
substituted_has P (first ∷ from) [] z term c = absurd z
substituted_has P (first ∷ from) (target ∷ to) z term c = by (same_term term first) refl (λ later. substituted_has P from to z.1 term later)
  where
    by : (answer : Bool) → same_term term first ≡ answer → (Contains from term → P term (substituted from to term))
        → P term (cond answer target (substituted from to term))
    by true told again = subst (λ it. P it target) (sym ((same_term-Decides term first).0 told)) z.0
    by false told again = elim (Contains-cases first from term c) [
      | inl is ↦ (let wrong : true ≡ false = sym ((same_term-Decides term first).1 (sym is)) ∙ told in cc)
      | inr later ↦ again later
    ]

-- later places do not change it
pub substituted-stays : (from to more others : List Term) → length from ≡ length to → (term : Term) → Contains from term
    → substituted (from ++ more) (to ++ others) term ≡ substituted from to term
substituted-stays [] to more others l term c = absurd (Contains-nil term c)
substituted-stays (first ∷ from) [] more others l term c = absurd (omega (arith, l))
substituted-stays (first ∷ from) (target ∷ to) more others l term c = by (same_term term first) refl
    (λ later. substituted-stays from to more others (omega (arith, l)) term later)
  where
    by : (answer : Bool) → same_term term first ≡ answer → (Contains from term → substituted (from ++ more) (to ++ others) term ≡ substituted from to term)
        → cond answer target (substituted (from ++ more) (to ++ others) term) ≡ cond answer target (substituted from to term)
    by true told again = refl
    by false told again = elim (Contains-cases first from term c) [
      | inl is ↦ (let wrong : true ≡ false = sym ((same_term-Decides term first).1 (sym is)) ∙ told in cc)
      | inr later ↦ again later
    ]

pub taken-stays : (from to more others : List Term) → length from ≡ length to → (term : Term) → Contains from term
    → taken (from ++ more) (to ++ others) term ≡ taken from to term
taken-stays from to more others l term c = ap (unless_constant (out-Term term) term) (substituted-stays from to more others l term c)

-- a term that is no constant meets one of the terms
pub substituted_in : (from to : List Term) → length from ≡ length to → (term : Term) → Contains from term → Contains to (substituted from to term)
substituted_in [] to l term c = absurd (Contains-nil term c)
substituted_in (first ∷ from) [] l term c = absurd (omega (arith, l))
substituted_in (first ∷ from) (target ∷ to) l term c = by (same_term term first) refl (λ later. substituted_in from to (omega (arith, l)) term later)
  where
    by : (answer : Bool) → same_term term first ≡ answer → (Contains from term → Contains to (substituted from to term))
        → Contains (target ∷ to) (cond answer target (substituted from to term))
    by true told again = Contains-head target to
    by false told again = elim (Contains-cases first from term c) [
      | inl is ↦ (let wrong : true ≡ false = sym ((same_term-Decides term first).1 (sym is)) ∙ told in cc)
      | inr later ↦ Contains-rest target to (substituted from to term) (again later)
    ]

pub taken_in : (from to : List Term) → length from ≡ length to → (term : Term) → Contains from term → IsConstant term ⊎ Contains to (taken from to term)
taken_in from to l term c = elim (taken_cases term) [
  | inl constant ↦ inl constant
  | inr is ↦ inr (subst (Contains to) (sym (is from to)) (substituted_in from to l term c))
]

-- ---- one place more

module _ (One : Term → Term → Type 0) (from to : List Term) (l : length from ≡ length to) where
  same_row : (more others : List Term) → map (taken (from ++ more) (to ++ others)) from ≡ map (taken from to) from
  same_row more others = map_agree (taken (from ++ more) (to ++ others)) (taken from to) from (λ term c. taken-stays from to more others l term c)

  cut : (more others : List Term) → AllZip One to (map (taken (from ++ more) (to ++ others)) from) → Fits One from to
  cut more others z = subst (AllZip One to) (same_row more others) z

  -- what fits with more fits so far, and the rest fits by the whole map
  pub Fits-split : (more others : List Term) → length more ≡ length others → Fits One (from ++ more) (to ++ others) → Fits One from to
      × AllZip One others (map (taken (from ++ more) (to ++ others)) more)
  Fits-split more others k z =
      let m = taken (from ++ more) (to ++ others) in
      let both = zip_split One to others (map m from) (map m more) (rw length-map (sym l)) (subst (AllZip One (to ++ others)) (map-append m from more) z) in
      (cut more others both.0, both.1)

  pub Fits-join : (more others : List Term) → Fits One from to → AllZip One others (map (taken (from ++ more) (to ++ others)) more)
      → Fits One (from ++ more) (to ++ others)
  Fits-join more others z rest =
      let m = taken (from ++ more) (to ++ others) in
      subst (AllZip One (to ++ others)) (sym (map-append m from more))
      (zip_append One to others (map m from) (map m more) (subst (AllZip One to) (sym (same_row more others)) z) rest)

  pub Fits-push : (term target : Term) → Fits One from to → One target (taken (from ++ term ∷ []) (to ++ target ∷ []) term)
      → Fits One (from ++ term ∷ []) (to ++ target ∷ [])
  Fits-push term target z one = Fits-join (term ∷ []) (target ∷ []) z (one, tt)

  pub Fits-pop : (term target : Term) → Fits One (from ++ term ∷ []) (to ++ target ∷ []) → Fits One from to
      × One target (taken (from ++ term ∷ []) (to ++ target ∷ []) term)
  Fits-pop term target z = let both = Fits-split (term ∷ []) (target ∷ []) refl z in (both.0, both.1.0)
