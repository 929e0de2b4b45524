-- The named variables of a body, each once.
use Rattle.std.proofs.Common.{◌≡◌, ℕ, ◌≤◌, ◌<◌, ◌+◌, Bool, true, false, cond, List, [], ◌∷◌, ◌++◌, length, take, get_or, Contains, refl, sym, ap, ◌∙◌, subst}
use Rattle.std.proofs.Common.{append_assoc, append-nil, inl, inr, arith}
use Rattle.std.specs.Prelude.{filter}
use Rattle.std.proofs.lemmas.List.{take_all}
use Rattle.std.proofs.lemmas.Option.{slice_get_cases}
use Rattle.std.proofs.lemmas.List.Concat.{flat_map-append}
use Rattle.std.proofs.lemmas.List.Elements.{filter-append}
use Rattle.esto_query.specs.declared.query.Name.{Name}
use Rattle.esto_relmodel.specs.Once.{AreEachOnce}
use Rattle.esto_relmodel.proofs.OnceLemmas.{one_more}
use Rattle.esto_semantics.specs.Facts.{terms_of}
use Rattle.esto_semantics.specs.declared.fact.Fact.{Fact}
use Rattle.esto_term.specs.declared.term.Term.{Term}
use Rattle.esto_term.specs.declared.term.Term.TheVariants.{Plain, outs-Plain}
use Rattle.esto_term.proofs.PlaceLemmas.{take-item}
use Rattle.esto_fill.specs.Placing.{AddsNamed}
use Rattle.esto_fill.specs.Records.{is_given, is_named, is_named_kind, AreNamedVariables}

module _ (names : List Name) where
  -- ---- whether a term is named

  pub unnamed_past : (term : Term) (variable : ℕ) → term ≡ Plain variable → length names ≤ variable → is_named names term ≡ false
  unnamed_past term variable is past = ap (is_named names) is ∙ ap (is_named_kind names) (outs-Plain variable) ∙ elim (slice_get_cases names variable).1 [
    | inl (name, within, there, read) ↦ absurd (omega (arith, within, past))
    | inr (beyond, none) ↦ ap is_given none
  ]

  -- ---- one term more

  adds_by : (term : Term) (named : Bool) (old new : List Term) → is_named names term ≡ named
      → ((things : List Term) → AreEachOnce things old → AreEachOnce (things ++ cond named (term ∷ []) []) new) → AddsNamed names (term ∷ []) old new
  adds_by term named old new told step things once =
      subst (λ more. AreEachOnce (things ++ more) new) (sym (ap (λ b. cond b (term ∷ []) []) told)) (step things once)

  pub adds_none : (old : List Term) → AddsNamed names [] old old
  adds_none old things once = subst (λ those. AreEachOnce those old) (sym (append-nil things)) once

  pub adds_known : (term : Term) (old : List Term) → is_named names term ≡ true → Contains old term → AddsNamed names (term ∷ []) old old
  adds_known term old told inside = adds_by term true old old told (λ things once. one_more false old old term (inside, refl) things once)

  pub adds_new : (term : Term) (old new : List Term) → is_named names term ≡ true → ¬ (Contains old term) → new ≡ old ++ term ∷ []
      → AddsNamed names (term ∷ []) old new
  adds_new term old new told apart is = adds_by term true old new told (λ things once. one_more true old new term (apart, is) things once)

  -- ---- the terms of a list

  pub adds_then : (terms : List Term) (term : Term) (old middle new : List Term) → AddsNamed names terms old middle → AddsNamed names (term ∷ []) middle new
      → AddsNamed names (terms ++ term ∷ []) old new
  adds_then terms term old middle new one other things once =
      subst (λ those. AreEachOnce those new)
      (append_assoc things (filter (is_named names) terms) (filter (is_named names) (term ∷ []))
      ∙ ap (λ more. things ++ more) (sym (filter-append (is_named names) terms (term ∷ []))))
      (other (things ++ filter (is_named names) terms) (one things once))

  pub adds_more : (terms old middle new : List Term) (count : ℕ) (term : Term) → count < length terms → term ≡ get_or terms count term
      → AddsNamed names (take count terms) old middle → AddsNamed names (term ∷ []) middle new → AddsNamed names (take (count + 1) terms) old new
  adds_more terms old middle new count term within read one other =
      subst (λ those. AddsNamed names those old new)
      (sym (take-item terms count term within read))
      (adds_then (take count terms) term old middle new one other)

  pub adds_all : (terms old new : List Term) (count : ℕ) → length terms ≤ count → AddsNamed names (take count terms) old new → AddsNamed names terms old new
  adds_all terms old new count past = subst (λ those. AddsNamed names those old new) (take_all count terms past)

  -- ---- the atoms of a body

  pub named_more : (body : List (Fact Term)) (count : ℕ) (atom : Fact Term) (old new : List Term) → count < length body → atom ≡ get_or body count atom
      → AreNamedVariables names (take count body) old → AddsNamed names atom.terms old new → AreNamedVariables names (take (count + 1) body) new
  named_more body count atom old new within read before more =
      subst (λ those. AreNamedVariables names those new)
      (sym (take-item body count atom within read))
      (subst (λ those. AreEachOnce those new) same (more (filter (is_named names) (terms_of (take count body))) before))
    where
      same : filter (is_named names) (terms_of (take count body)) ++ filter (is_named names) atom.terms
          ≡ filter (is_named names) (terms_of (take count body ++ atom ∷ []))
      same = sym (filter-append (is_named names) (terms_of (take count body)) atom.terms)
          ∙ ap (filter (is_named names)) (ap (λ last. terms_of (take count body) ++ last) (sym (append-nil atom.terms))
          ∙ sym (flat_map-append (λ (fact : Fact Term). fact.terms) (take count body) (atom ∷ [])))
