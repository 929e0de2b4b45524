-- The first atom that has not as many terms as its relation has columns.
use Rattle.std.proofs.Common.{◌≡◌, ℕ, ◌+◌, ◌<◌, ◌≤◌, List, length, get_or, take, Contains, Some, sym, ap, refl, subst, ◌∙◌, inl, inr}
use Rattle.std.specs.List.{slice_get}
use Rattle.std.proofs.lemmas.List.{take_all}
use Rattle.std.proofs.lemmas.List.Elements.{Contains-push_cases}
use Rattle.std.proofs.lemmas.Option.{same_Some, slice_get_read}
use Rattle.esto_term.specs.declared.term.Term.{Term}
use Rattle.esto_semantics.specs.WellFormed.{AreOver}
use Rattle.esto_semantics.specs.declared.fact.Fact.{Fact}
use Rattle.esto_query.specs.Making.{IsFirstMisfit}
use Rattle.esto_term.proofs.ListLemmas.{Contains-nil}
use Rattle.esto_term.proofs.PlaceLemmas.{take-item}

module _ (schema : List ℕ) (body : List (Fact Term)) where
  pub AreOver-none : AreOver schema (take 0 body)
  AreOver-none fact inside = absurd (Contains-nil fact inside)

  pub AreOver-all : (i : ℕ) → length body ≤ i → AreOver schema (take i body) → AreOver schema body
  AreOver-all i end over = subst (AreOver schema) (take_all i body end) over

  module _ (i : ℕ) (atom : Fact Term) (arity : ℕ) (within : i < length body) (read : atom ≡ get_or body i atom)
      (is : slice_get schema atom.relation ≡ Some arity) (over : AreOver schema (take i body)) where
    pub AreOver-more : length atom.terms ≡ arity → AreOver schema (take (i + 1) body)
    AreOver-more fits fact inside =
        elim (Contains-push_cases (take i body) atom fact (subst (λ atoms. Contains atoms fact)
        (take-item body i atom within read) inside)) [
          | inl before ↦ over fact before
          | inr same ↦ subst (λ (f : Fact Term). slice_get schema f.relation ≡ Some (length f.terms)) same (is ∙ ap Some (sym fits))
        ]

    pub IsFirstMisfit-here : (length atom.terms ≡ arity → ⊥) → IsFirstMisfit schema body i
    IsFirstMisfit-here apart = record {
      atom = atom;
      there = slice_get_read body _ i atom refl within read;
      misfit = λ e. apart (same_Some _ _ (sym e ∙ is));
      before = over;
    }
