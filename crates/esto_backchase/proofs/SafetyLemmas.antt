-- When a term of a plan's head is fixed by the atoms of a set.
use Rattle.std.proofs.Common.{◌≡◌, ◌↔◌, inl, inr, ℕ, ◌<◌, Bool, List, length, map, get_or, slice_get, Some, Contains, sym, ap, subst, ◌∙◌}
use Rattle.std.specs.Option.{option_map}
use Rattle.std.proofs.lemmas.List.{length-map}
use Rattle.std.proofs.lemmas.Option.{same_Some, slice_get-map, slice_get_within}
use Rattle.esto_term.specs.declared.term.Term.{Term}
use Rattle.esto_semantics.specs.Access.{IsBound}
use Rattle.esto_semantics.specs.Listed.{chosen}
use Rattle.esto_semantics.specs.ListedLaws.{ChosenAreNamed}
use Rattle.esto_semantics.specs.Maps.{IsFixedBy}
use Rattle.esto_term.specs.Sets.{Has}
use Rattle.esto_semantics.specs.declared.fact.Fact.{Fact}
use Rattle.esto_views.specs.Plans.{fact_of}
use Rattle.esto_views.specs.declared.plan.PlanAtom.{PlanAtom}
use Rattle.esto_term.proofs.ListLemmas.{thing_at}
use Rattle.esto_term.proofs.PlaceLemmas.{item_at}

-- a term is bound by the chosen atoms exactly where they fix it
pub bound-fixed : ChosenAreNamed → (set : List Bool) (atoms : List (Fact Term)) (term : Term) → IsBound atoms (Has set) term ↔ IsFixedBy (chosen set atoms) term
bound-fixed named set atoms term = (
  λ bound. elim bound [
    | inl constant ↦ inl constant
    | inr found ↦ inr (found.2.0, (named set atoms found.2.0).1 (found.0, found.1, found.2.1), found.2.2)
  ],
  λ fixed. elim fixed [
    | inl constant ↦ inl constant
    | inr found ↦ let number = (named set atoms found.0).0 found.1 in inr (number.0, number.1, (found.0, number.2, found.2))
  ],
)

module _ (atoms : List PlanAtom) (set : List Bool) (term : Term) where
  -- an atom of the set that has the term binds it
  pub bound-here : (number : ℕ) (atom : PlanAtom) → number < length atoms → atom ≡ get_or atoms number atom → Has set number → Contains atom.terms term
      → IsBound (map fact_of atoms) (Has set) term
  bound-here number atom within is has inside =
      inr (
        number,
        has,
        (
          fact_of atom,
          slice_get-map fact_of atoms number
              ∙ ap (option_map fact_of) (item_at atoms number atom within is),
          inside,
        ),
      )

  -- a term that is bound by an atom is in an atom of the set
  pub bound-from : (number : ℕ) (fact : Fact Term) → slice_get (map fact_of atoms) number ≡ Some fact → Contains fact.terms term
      → (atom : PlanAtom) × (slice_get atoms number ≡ Some atom) × Contains atom.terms term
  bound-from number fact at inside =
      let there = thing_at atoms number (rw length-map at (slice_get_within (map fact_of atoms) number fact at)) in
      let same : fact_of there.0 ≡ fact = same_Some (fact_of there.0) fact (sym (slice_get-map fact_of atoms number ∙ ap (option_map fact_of) there.1) ∙ at) in
      (there.0, there.1, subst (λ (it : Fact Term). Contains it.terms term) (sym same) inside)
