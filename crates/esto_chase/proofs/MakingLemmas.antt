-- What the rule makes of a term of its head.
use Rattle.std.proofs.Common.{◌≡◌, ◌⊎◌, inl, inr, ℕ, List, map, None, Some, Option, refl, sym, ap, ◌∙◌, subst}
use Rattle.std.specs.FinMap.{get}
use Rattle.std.specs.Option.{unwrap_or}
use Rattle.std.specs.Prelude.{IsSome}
use Rattle.std.proofs.lemmas.Bool.{false≢true}
use Rattle.esto_term.specs.declared.term.Term.{Term}
use Rattle.esto_term.specs.declared.term.Term.TheVariants.{Const, Plain, Made, outs-Const, outs-Plain}
use Rattle.esto_term.proofs.ListLemmas.{map_agree}
use Rattle.esto_semantics.specs.Facts.{image, Mentions}
use Rattle.esto_semantics.specs.Maps.{AreFlat}
use Rattle.esto_semantics.specs.declared.fact.Fact.{Fact}
use Rattle.esto_semantics.proofs.FactLemmas.{image_agree}
use Rattle.esto_semantics.specs.Valuations.{Assignment, map_of}
use Rattle.esto_constraint.specs.Tests.{IsOver}
use Rattle.esto_chase_laws.specs.Making.{frontier, extended, made_facts}
use Rattle.esto_chase_laws.proofs.MakingLemmas.{extended-flat}
use Rattle.esto_semantics.proofs.ValuationLemmas.{map_of-Plain, map_of-Const}
use Rattle.esto_chase.specs.Made.{made_by, made_by_level}

-- ---- what the rule makes

made_by-Const : (number : ℕ) (values : List Term) (valuation : Assignment) (text : List ℕ) → made_by number values valuation (Const text) ≡ Const text
made_by-Const number values valuation text = ap (made_by_level number values valuation (Const text)) (outs-Const text)

made_by-Plain : (number : ℕ) (values : List Term) (valuation : Assignment) (variable : ℕ)
    → made_by number values valuation (Plain variable) ≡ unwrap_or (get valuation variable) (Made number variable values)
made_by-Plain number values valuation variable = ap (made_by_level number values valuation (Plain variable)) (outs-Plain variable)

either_value : (value : Option Term) (one other : Term) → IsSome value → unwrap_or value one ≡ unwrap_or value other
either_value (Some term) one other some = refl
either_value None one other none = absurd (false≢true none)

no_value : (value : Option Term) (other : Term) → (IsSome value → ⊥) → unwrap_or value other ≡ other
no_value (Some term) other none = absurd (none refl)
no_value None other none = refl

module _ (number : ℕ) (body head : List (Fact Term)) (valuation : Assignment) (flat_head : AreFlat head) (over : IsOver body valuation) where
  abbrev m : Term → Term
  m = map_of valuation

  abbrev values : List Term
  values = map m (frontier body head)

  made_by-extended : (term : Term) → Mentions head term → made_by number values valuation term ≡ extended number body head m term
  made_by-extended term inside = elim (extended-flat number body head m term (map_of-Const valuation) (flat_head term inside)) [
    | inl text ↦ ap (made_by number values valuation) text.1 ∙ made_by-Const number values valuation text.0 ∙ sym text.2
    | inr other ↦ elim other [
      | inl at ↦ of_body term at.0 (flat_head term inside) ∙ sym at.1
      | inr new ↦
          ap (made_by number values valuation) new.1 ∙ made_by-Plain number values valuation new.0
          ∙ no_value (get valuation new.0) (Made number new.0 values) (λ some. new.2 (subst (Mentions body) (sym new.1) ((over new.0).0 some)))
          ∙ sym new.3
    ]
  ]
    where
      of_body : (term : Term) → Mentions body term → ((text : List ℕ) × (term ≡ Const text)) ⊎ ((variable : ℕ) × (term ≡ Plain variable))
          → made_by number values valuation term ≡ m term
      of_body term mentioned (inl (text, is)) =
          ap (made_by number values valuation) is ∙ made_by-Const number values valuation text ∙ sym (map_of-Const valuation text) ∙ ap m (sym is)
      of_body term mentioned (inr (variable, is)) =
          ap (made_by number values valuation) is ∙ made_by-Plain number values valuation variable
          ∙ either_value (get valuation variable) (Made number variable values) (Plain variable) ((over variable).1 (subst (Mentions body) is mentioned))
          ∙ sym (map_of-Plain valuation variable) ∙ ap m (sym is)

  pub made-made_facts : map (image (made_by number values valuation)) head ≡ made_facts number body head m
  made-made_facts =
      map_agree (image (made_by number values valuation)) (image (extended number body head m)) head (λ atom inside.
      image_agree (made_by number values valuation) (extended number body head m) atom (λ term within. made_by-extended term (atom, inside, within)))
