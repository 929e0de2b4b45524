-- What equal images come of, and maps that are changed at one variable.
use Rattle.std.proofs.Common.{◌≡◌, ◌≢◌, ℕ, eqb, cond, List, map, get_or, Contains, None, refl, sym, ap, ◌∙◌, inl, inr}
use Rattle.std.proofs.lemmas.List.{get_or-map}
use Rattle.std.proofs.lemmas.Option.{none-some}
use Rattle.std.proofs.lemmas.Bool.{eq-eqb, ne_eqb}
use Rattle.std.specs.FinMap.{get}
use Rattle.esto_term.specs.declared.term.Term.{Term, out-Term}
use Rattle.esto_term.specs.declared.term.Term.TheOpen.{Term-F}
use Rattle.esto_term.specs.declared.term.Term.TheVariants.{Const, Plain, outs-Const, outs-Plain}
use Rattle.esto_semantics.specs.Facts.{image}
use Rattle.esto_semantics.specs.Maps.{IsFlat, Keeps}
use Rattle.esto_semantics.specs.declared.fact.Fact.{Fact}
use Rattle.esto_semantics.specs.Valuations.{Assignment, Extends}

-- ---- equal images

-- equal images come of equal values
pub image_values : (f g : Term → Term) (fact : Fact Term) (term : Term) → image f fact ≡ image g fact → Contains fact.terms term → f term ≡ g term
image_values f g fact term same (k, l, e) =
    let at : get_or (map f fact.terms) k (f term) ≡ get_or (map g fact.terms) k (f term) = ap (λ (other : Fact Term). get_or other.terms k (f term)) same in
    sym (get_or-map f fact.terms k term (f term) l ∙ ap f e) ∙ at ∙ get_or-map g fact.terms k term (f term) l ∙ ap g e

-- ---- a map that is changed at one variable

abbrev pub changed_kind : (Term → Term) → ℕ → Term → Term → Term-F Term → Term
changed_kind m variable new term (Term-F.Const _) = m term
changed_kind m variable new term (Term-F.Plain number) = cond (eqb number variable) new (m term)
changed_kind m variable new term (Term-F.Made _ _ _) = m term

abbrev pub changed : (Term → Term) → ℕ → Term → Term → Term
changed m variable new term = changed_kind m variable new term (out-Term term)

pub changed-Const : (m : Term → Term) (variable : ℕ) (new : Term) (text : List ℕ) → changed m variable new (Const text) ≡ m (Const text)
changed-Const m variable new text = ap (changed_kind m variable new (Const text)) (outs-Const text)

pub changed-here : (m : Term → Term) (variable : ℕ) (new : Term) → changed m variable new (Plain variable) ≡ new
changed-here m variable new =
    ap (changed_kind m variable new (Plain variable)) (outs-Plain variable) ∙ ap (λ b. cond b new (m (Plain variable))) (eq-eqb variable variable refl)

pub changed-other : (m : Term → Term) (variable : ℕ) (new : Term) (number : ℕ) → number ≢ variable → changed m variable new (Plain number) ≡ m (Plain number)
changed-other m variable new number apart =
    ap (changed_kind m variable new (Plain number)) (outs-Plain number) ∙ ap (λ b. cond b new (m (Plain number))) (ne_eqb number variable apart)

pub Keeps-changed : (m : Term → Term) (variable : ℕ) (new : Term) → Keeps Const m → Keeps Const (changed m variable new)
Keeps-changed m variable new keeps text = changed-Const m variable new text ∙ keeps text

pub Extends-changed : (m : Term → Term) (variable : ℕ) (new : Term) (known : Assignment) → get known variable ≡ None → Extends m known
    → Extends (changed m variable new) known
Extends-changed m variable new known none extends number term at =
    changed-other m variable new number (λ same. none-some term (sym none ∙ ap (get known) (sym same) ∙ at)) ∙ extends number term at

-- a flat term that is not the variable stays
pub changed-flat : (m : Term → Term) (variable : ℕ) (new term : Term) → IsFlat term → term ≢ Plain variable → changed m variable new term ≡ m term
changed-flat m variable new term (inl constant) apart =
    ap (changed m variable new) constant.1 ∙ changed-Const m variable new constant.0 ∙ ap m (sym constant.1)
changed-flat m variable new term (inr plain) apart =
    ap (changed m variable new) plain.1
    ∙ changed-other m variable new plain.0 (λ same. apart (plain.1 ∙ ap Plain same))
    ∙ ap m (sym plain.1)

-- not every term is one term
pub terms_differ : (term : Term) → ((new : Term) → new ≡ term) → ⊥
terms_differ term all =
    let same : Term-F.Plain 0 ≡ Term-F.Plain 1 = sym (outs-Plain 0) ∙ ap out-Term (all (Plain 0) ∙ sym (all (Plain 1))) ∙ outs-Plain 1 in
    cc
