-- Derived entries that are new are no more than the pairs of a claim that may be made and a set of atoms.
use Rattle.std.proofs.Common.{◌≡◌, ◌<◌, ◌≤◌, suc, ℕ, Bool, List, [], ◌∷◌, length, map, take, slice_get, Contains, Some, refl, sym, ap, subst, arith, inl, inr}
use Rattle.std.specs.List.{flat_map}
use Rattle.std.proofs.lemmas.List.{length-map}
use Rattle.std.proofs.lemmas.List.Elements.{Contains-append_left, Contains-append_right}
use Rattle.esto_term.specs.Finite.{lists_within}
use Rattle.esto_term.specs.Nesting.{greatest_u64}
use Rattle.esto_term.specs.declared.term.Term.{Term}
use Rattle.esto_term.proofs.DistinctLemmas.{Distinct, distinct_none, distinct_cons, no_more_than}
use Rattle.esto_term.proofs.FiniteLemmas.{Contains-lists_within, finite}
use Rattle.esto_term.proofs.ListLemmas.{Contains-map, Contains-map_from, Contains-flat, place-from_Contains}
use Rattle.esto_term.proofs.PlaceLemmas.{Contains-take}
use Rattle.esto_semantics.specs.Rules.{Rule}
use Rattle.esto_term.specs.Sets.{Within, all_sets}
use Rattle.esto_semantics.specs.declared.fact.Fact.{Fact}
use Rattle.esto_term.proofs.SetLemmas.{within_refl, all_sets_are_listed}
use Rattle.esto_chase_laws.specs.Bounds.{width_of, run_terms}
use Rattle.esto_chase_laws.proofs.LowLemmas.{IsLow}
use Rattle.esto_semantics.specs.Expanded.{facts_of}
use Rattle.esto_chase_laws.specs.WorldBounds.{start_from, claimed_relations, rows_over, pairs_over, most_claims, claimed_sets}
use Rattle.esto_chase_laws.specs.Worlds.{InWorld}
use Rattle.esto_chase_laws.specs.WorldSteps.{IsCovered}
use Rattle.esto_chase_laws.specs.Derived.{AreNew}
use Rattle.esto_chase_laws.specs.WorldLaws.{DerivedFactsNestWithinRanks, DerivedEntriesAreFew}
use Rattle.esto_chase_laws.specs.declared.entry.Claim.{Claim}
use Rattle.esto_chase_laws.specs.declared.entry.Claim.TheVariants.{Fact as Stated, Same}
use Rattle.esto_chase_laws.specs.declared.entry.Entry.{Entry}
use Rattle.esto_chase_laws.proofs.WorldBoundLemmas.{stock, width, IsClaimWithin, derived_within}

-- ---- no pair of a claim and a product comes twice

abbrev pair_of : Entry → Claim × List Bool
pair_of entry = (entry.claim, entry.product)

itself_covered : (before : List Entry) (entry : Entry) (product : List Bool) → Contains before entry → Within entry.product product
    → (claim : Claim) → entry.claim ≡ claim → IsCovered (InWorld before product) claim
itself_covered before entry product inside within (Stated fact) is = (entry, inside, within, is)
itself_covered before entry product inside within (Same left right) is = inr (inl (entry, inside, within, is))

apart : (entries : List Entry) → AreNew entries → (i j : ℕ) (x y : Entry) → i < j → slice_get entries i ≡ Some x → slice_get entries j ≡ Some y
    → pair_of x ≡ pair_of y → ⊥
apart entries new i j x y below at at_later is =
    let products : x.product ≡ y.product = ap (λ (it : Claim × List Bool). it.1) is in
    new j y at_later (itself_covered (take j entries) x y.product (Contains-take entries j i x below at)
    (subst (Within x.product) products (within_refl x.product)) y.claim (ap (λ (it : Claim × List Bool). it.0) is))

distinct_pairs : (entries : List Entry)
    → ((i j : ℕ) (x y : Entry) → i < j → slice_get entries i ≡ Some x → slice_get entries j ≡ Some y → pair_of x ≡ pair_of y → ⊥)
    → Distinct (map pair_of entries)
distinct_pairs [] far = distinct_none
distinct_pairs (first ∷ rest) far =
    distinct_cons (pair_of first) (map pair_of rest) (λ inside.
    let found = Contains-map_from pair_of rest (pair_of first) inside in
    let at = place-from_Contains rest found.0 found.1 in
    far 0 (suc at.0) first found.0 (omega arith) refl at.1 (sym found.2))
    (distinct_pairs rest (λ i j x y below at at_later. far (suc i) (suc j) x y (omega (arith, below)) at at_later))

-- ---- the finite list of pairs

module _ (rules : List Rule) (facts : List (Fact Term)) (rank : ℕ → ℕ) (depth : ℕ) (low : (relation : ℕ) → rank relation ≤ depth)
    (deep : depth < greatest_u64) where
  abbrev terms : List Term
  terms = run_terms rules (start_from facts) depth

  abbrev rows : ℕ → List Claim
  rows = rows_over terms (width_of rules (start_from facts))

  in_terms : (relation : ℕ) (term : Term) → IsLow (stock rules facts rank) (width rules facts rank) (rank relation) term → Contains terms term
  in_terms relation term is =
      finite (stock rules facts rank) (width rules facts rank) depth deep term is.0 (omega (arith, is.1, low relation))

  in_claims : (claim : Claim) → IsClaimWithin rules facts rank claim → Contains (most_claims rules facts depth) claim
  in_claims (Stated fact) (relation, short, each) =
      Contains-append_left (flat_map rows (claimed_relations rules facts)) (pairs_over terms) (Stated fact)
      (Contains-flat rows (claimed_relations rules facts) fact.relation (Stated fact) relation
      (Contains-map (λ (row : List Term). Stated (record { relation = fact.relation; terms = row })) (lists_within terms (width rules facts rank)) fact.terms
      (Contains-lists_within terms fact.terms (width rules facts rank) short (λ term inside. in_terms fact.relation term (each term inside)))))
  in_claims (Same left right) (on_left, on_right) =
      Contains-append_right (flat_map rows (claimed_relations rules facts)) (pairs_over terms) (Same left right)
      (Contains-flat (λ left. map (Same left) terms) terms left (Same left right) (in_terms on_left.0 left on_left.1)
      (Contains-map (Same left) terms right (in_terms on_right.0 right on_right.1)))

  in_pairs : (count : ℕ) (claim : Claim) (set : List Bool) → IsClaimWithin rules facts rank claim → length set ≡ count
      → Contains (claimed_sets rules facts depth count) (claim, set)
  in_pairs count claim set within counted =
      Contains-flat (λ claim. map (λ (set : List Bool). (claim, set)) (all_sets count)) (most_claims rules facts depth) claim (claim, set)
      (in_claims claim within)
      (Contains-map (λ (set : List Bool). (claim, set)) (all_sets count) set (((all_sets_are_listed count).0 set).1 counted))

pub derived_few : DerivedEntriesAreFew
derived_few expanded rules entries rank depth count sound flat rise low deep derived new counted =
    let short : length (map pair_of entries) ≤ length (claimed_sets rules (facts_of expanded) depth count) =
    no_more_than (map pair_of entries) (claimed_sets rules (facts_of expanded) depth count) (distinct_pairs entries (apart entries new))
    (λ pair inside.
    let found = Contains-map_from pair_of entries pair inside in
    subst (Contains (claimed_sets rules (facts_of expanded) depth count)) found.2
    (in_pairs rules (facts_of expanded) rank depth low deep count found.0.claim found.0.product
    (derived_within expanded rules rank sound flat rise entries derived found.0 found.1) (counted found.0 found.1))) in
    omega (arith, short, length-map entries pair_of)

pub derived_nested : DerivedFactsNestWithinRanks
derived_nested expanded rules entries rank sound flat rise derived entry fact term inside is in_fact =
    let within = derived_within expanded rules rank sound flat rise entries derived entry inside in
    ((subst (IsClaimWithin rules (facts_of expanded) rank) is within).2 term in_fact).1
