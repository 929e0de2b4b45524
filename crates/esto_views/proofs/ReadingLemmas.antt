-- The terms by first occurrence, as they are read one after the other.
use Rattle.std.proofs.Common.{◌≡◌, ◌⊎◌, inl, inr, ℕ, ◌<◌, ◌+◌, List, [], ◌∷◌, ◌++◌}
use Rattle.std.proofs.Common.{length, take, drop, get_or, slice_get, Contains, Some, sym, ap, ◌∙◌, subst, arith}
use Rattle.std.specs.List.{flat_map}
use Rattle.std.proofs.lemmas.List.{append-nil, append_assoc, take-append-drop, take_more}
use Rattle.std.proofs.lemmas.List.Concat.{flat_map-append}
use Rattle.std.proofs.lemmas.List.Elements.{Contains-append_left, Contains-push, Contains-push_cases, Contains-get_or}
use Rattle.std.proofs.lemmas.List.Quantifiers.{all_pairs_push}
use Rattle.std.proofs.lemmas.Option.{slice_get_within, get_or_from_slice_get}
use Rattle.esto_term.specs.declared.term.Term.{Term}
use Rattle.esto_semantics.specs.Maps.{IsConstant}
use Rattle.esto_semantics.specs.declared.fact.Fact.{Fact}
use Rattle.esto_views.specs.Reading.{OccursBefore, AreFirstOccurrences}
use Rattle.esto_term.proofs.ListLemmas.{Contains-nil}
use Rattle.esto_term.proofs.PlaceLemmas.{take-item}

pub seen_none : AreFirstOccurrences [] []
seen_none = record {
  exact = λ term. ((λ inside. absurd (Contains-nil term inside)), (λ both. absurd (Contains-nil term both.0)));
  ordered = λ i j d less within. absurd (omega arith);
}

occurs_more : (terms more : List Term) (term other : Term) → OccursBefore terms term other → OccursBefore (terms ++ more) term other
occurs_more terms more term other (front, (back, is, without)) =
    (front, (back ++ more, ap (λ it. it ++ more) is ∙ append_assoc (front ++ term ∷ []) back more, without))

-- a term among these stands at a place, and what comes up to it is among them
occurs_at : (terms : List Term) (term : Term) → Contains terms term
    → (front : List Term) × ((back : List Term) × (terms ≡ (front ++ term ∷ []) ++ back))
occurs_at terms term (place, within, is) = (
  take place terms,
  (
    drop (place + 1) terms,
    sym (take-append-drop (place + 1) terms) ∙ ap (λ it. it ++ drop (place + 1) terms)
        (take-item terms place term within (sym is)),
  ),
)

occurs_before_new : (terms : List Term) (term new : Term) → Contains terms term → (Contains terms new → ⊥) → OccursBefore (terms ++ new ∷ []) term new
occurs_before_new terms term new inside outside =
    let at = occurs_at terms term inside in
    occurs_more terms (new ∷ []) term new
    (at.0, (at.1.0, at.1.1, λ there. outside (subst (λ it. Contains it new) (sym at.1.1) (Contains-append_left (at.0 ++ term ∷ []) at.1.0 new there))))

module _ (read seen : List Term) (term : Term) (so_far : AreFirstOccurrences read seen) where
  pub seen_known : IsConstant term ⊎ Contains read term → AreFirstOccurrences (read ++ term ∷ []) seen
  seen_known known = record {
    exact = λ other. (
      (λ inside. let found = (so_far.exact other).0 inside in (Contains-append_left read (term ∷ []) other found.0, found.1)),
      (λ both. elim (Contains-push_cases read term other both.0) [
        | inl earlier ↦ (so_far.exact other).1 (earlier, both.1)
        | inr same ↦ elim known [
          | inl constant ↦ absurd (both.1 (subst IsConstant same constant))
          | inr inside ↦ (so_far.exact other).1 (subst (Contains read) same inside, both.1)
        ]
      ]),
    );
    ordered = λ i j d less within. occurs_more read (term ∷ []) _ _ (so_far.ordered i j d less within);
  }

  pub seen_new : (IsConstant term → ⊥) → (Contains read term → ⊥) → AreFirstOccurrences (read ++ term ∷ []) (seen ++ term ∷ [])
  seen_new no_constant unread = record {
    exact = λ other. (
      (λ inside. elim (Contains-push_cases seen term other inside) [
        | inl earlier ↦ let found = (so_far.exact other).0 earlier in (Contains-append_left read (term ∷ []) other found.0, found.1)
        | inr same ↦ subst (λ it. Contains (read ++ term ∷ []) it × ¬ (IsConstant it)) same (Contains-push read term, no_constant)
      ]),
      (λ both. elim (Contains-push_cases read term other both.0) [
        | inl earlier ↦ Contains-append_left seen (term ∷ []) other ((so_far.exact other).1 (earlier, both.1))
        | inr same ↦ subst (Contains (seen ++ term ∷ [])) same (Contains-push seen term)
      ]),
    );
    ordered = all_pairs_push (OccursBefore (read ++ term ∷ [])) seen term
        (λ i j d less within. occurs_more read (term ∷ []) _ _ (so_far.ordered i j d less within))
        (λ k d within. occurs_before_new read (get_or seen k d) term ((so_far.exact (get_or seen k d)).0 (Contains-get_or seen k d within)).0 unread);
  }

-- ---- the terms of a list, place by place

module _ (terms seen : List Term) (place : ℕ) (term : Term) (at : slice_get terms place ≡ Some term)
    (so_far : AreFirstOccurrences (take place terms) seen) where
  one_more : take place terms ++ term ∷ [] ≡ take (place + 1) terms
  one_more =
      ap (λ it. take place terms ++ it ∷ []) (sym (get_or_from_slice_get terms place term term at))
      ∙ sym (take_more terms place term (slice_get_within terms place term at))

  pub place_known : IsConstant term ⊎ Contains (take place terms) term → AreFirstOccurrences (take (place + 1) terms) seen
  place_known known = subst (λ it. AreFirstOccurrences it seen) one_more (seen_known (take place terms) seen term so_far known)

  pub place_new : (new : List Term) → new ≡ seen ++ term ∷ [] → (IsConstant term → ⊥) → (Contains (take place terms) term → ⊥)
      → AreFirstOccurrences (take (place + 1) terms) new
  place_new new pushed no_constant unread =
      subst (λ it. AreFirstOccurrences it new) one_more
      (subst (AreFirstOccurrences (take place terms ++ term ∷ [])) (sym pushed) (seen_new (take place terms) seen term so_far no_constant unread))

-- ---- the terms of rows

pub rows_read_more : (rows : List (Fact Term)) (place : ℕ) (row : Fact Term) (terms new : List Term) → place < length rows → row ≡ get_or rows place row
    → new ≡ terms ++ row.terms → terms ≡ flat_map (λ it. it.terms) (take place rows) → new ≡ flat_map (λ it. it.terms) (take (place + 1) rows)
rows_read_more rows place row terms new within is joined so_far =
    let terms_of : Fact Term → List Term = λ it. it.terms in
    joined
    ∙ ap (λ it. it ++ row.terms) so_far
    ∙ ap (λ it. flat_map terms_of (take place rows) ++ it) (sym (append-nil row.terms))
    ∙ sym (flat_map-append terms_of (take place rows) (row ∷ []))
    ∙ ap (flat_map terms_of) (ap (λ it. take place rows ++ it ∷ []) is ∙ sym (take_more rows place row within))
