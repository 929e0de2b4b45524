-- The leaves of a derivation are exactly the atoms of the entry's product.
use Rattle.std.proofs.Common.{◌≡◌, ◌↔◌, ℕ, List, [], ◌∷◌, map, length, take, slice_get, Contains, Some, sym, ap, ◌∙◌, subst, arith, inl, inr}
use Rattle.std.specs.List.{flat_map}
use Rattle.std.proofs.lemmas.Option.{slice_get_within}
use Rattle.esto_term.proofs.ListLemmas.{Contains-nil, Contains-head, Contains-cases, Contains-map, Contains-map_from, Contains-flat, Contains-flat_from}
use Rattle.esto_term.proofs.ListLemmas.{place-from_Contains, thing_at, Contains-at}
use Rattle.esto_term.proofs.PlaceLemmas.{taken_at}
use Rattle.esto_term.specs.Sets.{Has}
use Rattle.esto_chase_laws.specs.Derived.{IsUnion}
use Rattle.esto_chase_laws.specs.WorldLaws.{IsReasoned, AreReasoned}
use Rattle.esto_chase_laws.specs.declared.entry.Entry.{Entry}
use Rattle.esto_chase_laws.specs.declared.entry.Reason.{Reason}
use Rattle.esto_chase_laws.specs.declared.entry.Reason.TheVariants as reason
use Rattle.esto_prov.specs.Derivations.{HasReason, IsWhy, leaves_of, leaves_of_level}
use Rattle.esto_prov.specs.Derivations.IsWhy.{expanded, step, same}
use Rattle.esto_prov.specs.declared.why.Why.{Why, fold-roll-Why}
use Rattle.esto_prov.specs.declared.why.Why.TheOpen.{Why-F}
use Rattle.esto_prov.specs.declared.why.Why.TheVariants.{Expanded, Step, Same, rolls-Expanded, rolls-Step, rolls-Same}

leaves-Expanded : (atom place : ℕ) → leaves_of (Expanded atom place) ≡ atom ∷ []
leaves-Expanded atom place = ap leaves_of (sym (rolls-Expanded atom place)) ∙ fold-roll-Why (List ℕ) leaves_of_level (Why-F.Expanded atom place)

leaves-Step : (number : ℕ) (parts : List Why) → leaves_of (Step number parts) ≡ flat_map (λ part. part) (map leaves_of parts)
leaves-Step number parts = ap leaves_of (sym (rolls-Step number parts)) ∙ fold-roll-Why (List ℕ) leaves_of_level (Why-F.Step number parts)

leaves-Same : (parts : List Why) → leaves_of (Same parts) ≡ flat_map (λ part. part) (map leaves_of parts)
leaves-Same parts = ap leaves_of (sym (rolls-Same parts)) ∙ fold-roll-Why (List ℕ) leaves_of_level (Why-F.Same parts)

-- a leaf of a part is one of the whole, and the other way round
parts_have : (parts : List Why) (part : Why) (atom : ℕ) → Contains parts part → Contains (leaves_of part) atom
    → Contains (flat_map (λ it. it) (map leaves_of parts)) atom
parts_have parts part atom inside leaf =
    Contains-flat (λ (it : List ℕ). it) (map leaves_of parts) (leaves_of part) atom (Contains-map leaves_of parts part inside) leaf

parts_from : (parts : List Why) (atom : ℕ) → Contains (flat_map (λ it. it) (map leaves_of parts)) atom
    → (part : Why) × Contains parts part × Contains (leaves_of part) atom
parts_from parts atom leaf =
    let found = Contains-flat_from (λ (it : List ℕ). it) (map leaves_of parts) atom leaf in
    let part = Contains-map_from leaves_of parts found.0 found.1 in
    (part.0, part.1, subst (λ it. Contains it atom) (sym part.2) found.2)

one_leaf : (own atom : ℕ) → (atom ≡ own) ↔ Contains (own ∷ []) atom
one_leaf own atom = (
  (λ is. subst (Contains (own ∷ [])) (sym is) (Contains-head own [])),
  (λ inside. elim (Contains-cases own [] atom inside) [ inl is ↦ sym is | inr none ↦ absurd (Contains-nil atom none) ]),
)

module _ (entries : List Entry) (are_reasoned : AreReasoned entries) where
  abbrev HasLeaves : ℕ → Why → Type 0
  HasLeaves at why = (entry : Entry) → slice_get entries at ≡ Some entry → (atom : ℕ) → Has entry.product atom ↔ Contains (leaves_of why) atom

  -- the product is what the reason names
  named : (at : ℕ) (entry : Entry) (its : Reason) → slice_get entries at ≡ Some entry → HasReason entries at its
      → IsReasoned (take at entries) entry.product its
  named at entry its there (other, there_other, is) =
      let both : Some other ≡ Some entry = sym there_other ∙ there in
      let same_entry : other ≡ entry = cc in
      subst (IsReasoned (take at entries) entry.product) (ap (λ (it : Entry). it.reason) (sym same_entry) ∙ is) (are_reasoned.reasoned at entry there)

  -- what a union of parts has, its derivations' leaves are
  parts_leaves : (at : ℕ) (entry : Entry) (places : List ℕ) (whys : List Why) → IsUnion (take at entries) places entry.product → length whys ≡ length places
      → ((part place : ℕ) (why : Why) → slice_get places part ≡ Some place → slice_get whys part ≡ Some why → HasLeaves place why)
      → (atom : ℕ) → Has entry.product atom ↔ Contains (flat_map (λ it. it) (map leaves_of whys)) atom
  parts_leaves at entry places whys union as_many each atom = (
    (λ has.
        let found = (union.exact atom).0 has in
        let part = place-from_Contains places found.0 found.2 in
        let within = slice_get_within places part.0 found.0 part.1 in
        let why = thing_at whys part.0 (omega (arith, within, as_many)) in
        parts_have whys why.0 atom (Contains-at whys part.0 why.0 why.1)
        ((each part.0 found.0 why.0 part.1 why.1 found.1 (taken_at entries at found.0 found.1 found.3) atom).0 found.4)),
    (λ leaf.
        let why = parts_from whys atom leaf in
        let part = place-from_Contains whys why.0 why.1 in
        let within = slice_get_within whys part.0 why.0 part.1 in
        let place = thing_at places part.0 (omega (arith, within, as_many)) in
        let named_place = Contains-at places part.0 place.0 place.1 in
        let its = thing_at (take at entries) place.0 (union.there place.0 named_place) in
        let has = (each part.0 place.0 why.0 place.1 part.1 its.0 (taken_at entries at place.0 its.0 its.1) atom).1 why.2 in
        (union.exact atom).1 (place.0, its.0, named_place, its.1, has)),
  )

  pub leaves_are : (at : ℕ) (why : Why) → IsWhy entries at why → HasLeaves at why
  leaves_are at why (expanded own atom place its_reason) entry there leaf =
      let exact = (named at entry (reason.Expanded atom place) there its_reason) leaf in
      let told = one_leaf atom leaf in (
        (λ has. subst (λ it. Contains it leaf) (sym (leaves-Expanded atom place)) (told.0 (exact.0 has))),
        (λ inside. exact.1 (told.1 (subst (λ it. Contains it leaf) (leaves-Expanded atom place) inside))),
      )
  leaves_are at why (step own number places whys its_reason as_many each) entry there leaf =
      let told = parts_leaves at entry places whys (named at entry (reason.Step number places) there its_reason) as_many
      (λ part place its at_place at_why. leaves_are place its (each part place its at_place at_why)) leaf in (
        (λ has. subst (λ it. Contains it leaf) (sym (leaves-Step number whys)) (told.0 has)),
        (λ inside. told.1 (subst (λ it. Contains it leaf) (leaves-Step number whys) inside)),
      )
  leaves_are at why (same own places whys its_reason as_many each) entry there leaf =
      let told = parts_leaves at entry places whys (named at entry (reason.Equal places) there its_reason) as_many
      (λ part place its at_place at_why. leaves_are place its (each part place its at_place at_why)) leaf in (
        (λ has. subst (λ it. Contains it leaf) (sym (leaves-Same whys)) (told.0 has)),
        (λ inside. told.1 (subst (λ it. Contains it leaf) (leaves-Same whys) inside)),
      )
