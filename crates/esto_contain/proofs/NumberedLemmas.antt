-- Facts as what is expanded of atoms of their own.
use Rattle.std.proofs.Common.{◌≡◌, ◌<◌, ℕ, ◌+◌, inl, inr, List, [], ◌∷◌, ◌++◌, length, take, get_or, slice_get, Some, Contains, refl, sym, ap, ◌∙◌, subst}
use Rattle.std.proofs.Common.{arith}
use Rattle.std.proofs.lemmas.List.{length-take}
use Rattle.std.proofs.lemmas.List.Elements.{Contains-append_left, Contains-push, Contains-push_cases}
use Rattle.std.proofs.lemmas.Option.{none-some, slice_get_within}
use Rattle.esto_term.specs.declared.term.Term.{Term}
use Rattle.esto_term.proofs.ListLemmas.{Contains-at, Contains-map_from, Contains-nil, at_end, at_left, at_pushed}
use Rattle.esto_term.proofs.PlaceLemmas.{take-item}
use Rattle.esto_semantics.specs.Maps.{AreFlat}
use Rattle.esto_semantics.specs.declared.fact.Fact.{Fact}
use Rattle.esto_semantics.specs.Expanded.{facts_of}
use Rattle.esto_semantics.specs.declared.expanded.ExpandedFact.{ExpandedFact}
use Rattle.esto_contain.specs.Numbered.{AreNumbered}

pub numbered_none : AreNumbered [] []
numbered_none fact = (λ inside. absurd (Contains-nil fact inside), λ (_, at). absurd (none-some fact.fact at))

pub numbered_more : (facts : List (Fact Term)) (place : ℕ) (fact : Fact Term) (now : List ExpandedFact) → place < length facts
    → fact ≡ get_or facts place fact → AreNumbered (take place facts) now
    → AreNumbered (take (place + 1) facts) (now ++ (record { atom = place; place = 0; fact = fact }) ∷ [])
numbered_more facts place fact now within is so_far it = (
  λ inside. elim (Contains-push_cases now last it inside) [
    | inl earlier ↦ (let told = (so_far it).0 earlier in
        (told.0, subst (λ all. slice_get all it.atom ≡ Some it.fact) (sym whole) (at_left (take place facts) (fact ∷ []) it.atom it.fact told.1)))
    | inr same ↦ subst (λ (one : ExpandedFact). (one.place ≡ 0) × (slice_get (take (place + 1) facts) one.atom ≡ Some one.fact)) same (refl, here)
  ],
  λ (zero, at). elim (at_pushed (take place facts) fact it.atom it.fact (subst (λ all. slice_get all it.atom ≡ Some it.fact) whole at)) [
    | inl earlier ↦ Contains-append_left now (last ∷ []) it ((so_far it).1 (zero, earlier))
    | inr same ↦ subst (Contains (now ++ last ∷ [])) (λ i. record { atom = sym (same.0 ∙ count) i; place = sym zero i; fact = same.1 i })
        (Contains-push now last)
  ],
)
  where
    last : ExpandedFact
    last = record { atom = place; place = 0; fact = fact }

    whole : take (place + 1) facts ≡ take place facts ++ fact ∷ []
    whole = take-item facts place fact within is

    count : length (take place facts) ≡ place
    count = omega (arith, within, length-take place facts)

    here : slice_get (take (place + 1) facts) place ≡ Some fact
    here = ap (slice_get (take (place + 1) facts)) (sym count) ∙ ap (λ all. slice_get all (length (take place facts))) whole ∙ at_end (take place facts) fact

module _ (facts : List (Fact Term)) (expanded : List ExpandedFact) (numbered : AreNumbered facts expanded) where
  pub numbered_flat : AreFlat facts → AreFlat (facts_of expanded)
  numbered_flat flat term (fact, there, inside) =
      let from = Contains-map_from (λ (it : ExpandedFact). it.fact) expanded fact there in
      flat term (
        from.0.fact,
        Contains-at facts from.0.atom from.0.fact ((numbered from.0).0 from.1).1,
        subst (λ (it : Fact Term). Contains it.terms term) (sym from.2) inside,
      )

  pub numbered_below : (fact : ExpandedFact) → Contains expanded fact → fact.atom < length facts
  numbered_below fact inside = slice_get_within facts fact.atom fact.fact ((numbered fact).0 inside).1
