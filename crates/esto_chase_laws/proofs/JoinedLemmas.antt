-- Lists in which what is there is not put again, as sets.
use Rattle.std.proofs.Common.{◌≡◌, ◌⊎◌, ◌&&◌, ◌==◌, inl, inr, Bool, true, false, cond, List, [], ◌∷◌, ◌++◌, map, length, ◌≤◌, ◌+◌, suc, Contains, refl, sym, ap}
use Rattle.std.proofs.Common.{subst, arith, length-append}
use Rattle.std.specs.Bool.{Decides}
use Rattle.std.specs.Cmp.{unsigned_Decides}
use Rattle.std.specs.Cmp.Lexicographic.{pointwise}
use Rattle.std.specs.Set.{is_member}
use Rattle.std.proofs.lemmas.List.Elements.{Contains-append_left, Contains-push, Contains-push_cases}
use Rattle.std.proofs.lemmas.Map.Made.{is_member-Decides}
use Rattle.std.proofs.lemmas.Slice.Eq.{slice_eq-Decides}
use Rattle.esto_term.specs.Order.{replaced, same_term}
use Rattle.esto_term.specs.declared.term.Term.{Term}
use Rattle.esto_term.proofs.ListLemmas.{Contains-nil, Contains-head, Contains-rest, Contains-cases}
use Rattle.esto_semantics.specs.Facts.{image}
use Rattle.esto_semantics.specs.declared.fact.Fact.{Fact}
use Rattle.esto_semantics.proofs.TermLemmas.{same_term-Decides}
use Rattle.esto_chase_laws.specs.Joined.{joined_by, joined, same_fact}
use Rattle.esto_chase_laws.specs.Runs.{replaced_facts}

module _ {A : Type 0} (same : A → A → Bool) where
  -- one turn
  abbrev pub joined_one : List A → A → List A
  joined_one things next = cond (is_member same things next) things (things ++ next ∷ [])

  pub joined_shorter : (more things : List A) → length (joined_by same things more) ≤ length things + length more
  joined_shorter [] things = omega arith
  joined_shorter (next ∷ more) things = omega (arith, joined_shorter more (joined_one things next), one (is_member same things next))
    where
      one : (answer : Bool) → length (cond answer things (things ++ next ∷ [])) ≤ suc (length things)
      one true = omega arith
      one false = omega (arith, length-append things (next ∷ []))

  module _ (decides : (thing other : A) → Decides (same thing other) (thing ≡ other)) where
    pub one_from : (things : List A) (next thing : A) → Contains (joined_one things next) thing → Contains things thing ⊎ (next ≡ thing)
    one_from things next thing = by (is_member same things next)
      where
        by : (answer : Bool) → Contains (cond answer things (things ++ next ∷ [])) thing → Contains things thing ⊎ (next ≡ thing)
        by true inside = inl inside
        by false inside = Contains-push_cases things next thing inside

    pub one_has : (things : List A) (next thing : A) → Contains things thing ⊎ (next ≡ thing) → Contains (joined_one things next) thing
    one_has things next thing = by (is_member same things next) (is_member-Decides decides things next)
      where
        by : (answer : Bool) → Decides answer (Contains things next) → Contains things thing ⊎ (next ≡ thing)
            → Contains (cond answer things (things ++ next ∷ [])) thing
        by true told (inl inside) = inside
        by true told (inr is) = subst (Contains things) is (told.0 refl)
        by false told (inl inside) = Contains-append_left things (next ∷ []) thing inside
        by false told (inr is) = subst (Contains (things ++ next ∷ [])) is (Contains-push things next)

    pub joined_from : (more things : List A) (thing : A) → Contains (joined_by same things more) thing → Contains things thing ⊎ Contains more thing
    joined_from [] things thing inside = inl inside
    joined_from (next ∷ more) things thing inside = elim (joined_from more (joined_one things next) thing inside) [
      | inl before ↦ elim (one_from things next thing before) [
        | inl old ↦ inl old
        | inr is ↦ inr (subst (Contains (next ∷ more)) is (Contains-head next more))
      ]
      | inr later ↦ inr (Contains-rest next more thing later)
    ]

    pub joined_has : (more things : List A) (thing : A) → Contains things thing ⊎ Contains more thing → Contains (joined_by same things more) thing
    joined_has [] things thing (inl inside) = inside
    joined_has [] things thing (inr none) = absurd (Contains-nil thing none)
    joined_has (next ∷ more) things thing (inl inside) = joined_has more (joined_one things next) thing (inl (one_has things next thing (inl inside)))
    joined_has (next ∷ more) things thing (inr inside) = joined_has more (joined_one things next) thing (elim (Contains-cases next more thing inside) [
      | inl is ↦ inl (one_has things next thing (inr is))
      | inr later ↦ inr later
    ])

-- ---- facts

pub same_fact-Decides : (fact other : Fact Term) → Decides (same_fact fact other) (fact ≡ other)
same_fact-Decides fact other =
    (to (fact.relation == other.relation) (pointwise same_term fact.terms other.terms) (unsigned_Decides fact.relation other.relation) terms, back)
  where
    terms : Decides (pointwise same_term fact.terms other.terms) (fact.terms ≡ other.terms)
    terms = slice_eq-Decides same_term-Decides fact.terms other.terms (pointwise same_term fact.terms other.terms) refl

    to : (a b : Bool) → Decides a (fact.relation ≡ other.relation) → Decides b (fact.terms ≡ other.terms) → (a && b) ≡ true → fact ≡ other
    to true true p q both = λ i. record { relation = p.0 refl i; terms = q.0 refl i }
    to true false p q both = cc
    to false b p q both = cc

    back : fact ≡ other → same_fact fact other ≡ true
    back is =
        let one : (fact.relation == other.relation) ≡ true = (unsigned_Decides fact.relation other.relation).1 (ap (λ (it : Fact Term). it.relation) is) in
        let two : pointwise same_term fact.terms other.terms ≡ true = terms.1 (ap (λ (it : Fact Term). it.terms) is) in
        rw (one, two) refl

-- the list has exactly what the two others have
pub record AreTogether (facts more all : List (Fact Term)) : Type 0 where
  pub from : (fact : Fact Term) → Contains all fact → Contains facts fact ⊎ Contains more fact
  pub old : (fact : Fact Term) → Contains facts fact → Contains all fact
  pub new : (fact : Fact Term) → Contains more fact → Contains all fact

pub joined-AreTogether : (facts more all : List (Fact Term)) → all ≡ joined facts more → AreTogether facts more all
joined-AreTogether facts more all is = record {
  from = λ fact inside. joined_from same_fact same_fact-Decides more facts fact (subst (λ it. Contains it fact) is inside);
  old = λ fact inside. subst (λ it. Contains it fact) (sym is) (joined_has same_fact same_fact-Decides more facts fact (inl inside));
  new = λ fact inside. subst (λ it. Contains it fact) (sym is) (joined_has same_fact same_fact-Decides more facts fact (inr inside));
}

-- the list has exactly the replaced facts
pub record AreReplaced (from to : Term) (facts all : List (Fact Term)) : Type 0 where
  pub back : (fact : Fact Term) → Contains all fact → Contains (map (image (replaced from to)) facts) fact
  pub there : (fact : Fact Term) → Contains (map (image (replaced from to)) facts) fact → Contains all fact

pub replaced-AreReplaced : (from to : Term) (facts all : List (Fact Term)) → all ≡ replaced_facts from to facts → AreReplaced from to facts all
replaced-AreReplaced from to facts all is =
    let both = joined-AreTogether [] (map (image (replaced from to)) facts) all is in record {
      back = λ fact inside. elim (both.from fact inside) [
        | inl none ↦ absurd (Contains-nil fact none)
        | inr new ↦ new
      ];
      there = both.new;
    }
