-- The frontier as it is read, one term after the other.
use Rattle.std.proofs.Common.{◌≡◌, ◌↔◌, ℕ, ◌+◌, ◌<◌, Bool, true, false, cond, List, [], ◌∷◌, ◌++◌}
use Rattle.std.proofs.Common.{length, get_or, take, refl, sym, ap, ◌∙◌}
use Rattle.std.specs.Bool.{Decides}
use Rattle.std.specs.List.{filter}
use Rattle.std.specs.Prelude.{IsTrue, Contains}
use Rattle.std.specs.Set.{is_member}
use Rattle.std.proofs.lemmas.Grind.{flat_map-append}
use Rattle.std.proofs.lemmas.List.{append-nil, take_more}
use Rattle.std.proofs.lemmas.List.Elements.{filter-append}
use Rattle.std.proofs.lemmas.Map.Made.{is_member-Decides}
use Rattle.esto_term.specs.Order.{same_term}
use Rattle.esto_term.specs.declared.term.Term.{Term}
use Rattle.esto_term.specs.declared.term.Term.TheVariants.{Plain, outs-Plain}
use Rattle.esto_semantics.specs.Facts.{Mentions, terms_of}
use Rattle.esto_semantics.specs.declared.fact.Fact.{Fact}
use Rattle.esto_semantics.proofs.CanonicalLemmas.{Mentions-terms_of}
use Rattle.esto_semantics.proofs.TermLemmas.{same_term-Decides}
use Rattle.esto_chase_laws.specs.Joined.{joined_by}
use Rattle.esto_chase_laws.specs.Making.{is_variable_of}
use Rattle.esto_chase_laws.proofs.MakingLemmas.{in_terms-Decides, terms_of-Mentions}

same_answer : (one other : Bool) {P : Type 0} → Decides one P → Decides other P → one ≡ other
same_answer true true one other = refl
same_answer true false one other = sym (other.1 (one.0 refl))
same_answer false true one other = one.1 (other.0 refl)
same_answer false false one other = refl

pub variable-told : (atoms : List (Fact Term)) (term : Term) (variable : ℕ) (answer : Bool) → term ≡ Plain variable → IsTrue answer ↔ Mentions atoms term
    → answer ≡ is_variable_of atoms term
variable-told atoms term variable answer is told =
    same_answer answer (is_member same_term (terms_of atoms) term) {P = Mentions atoms term} told (
      (λ yes. terms_of-Mentions atoms term ((in_terms-Decides atoms term).0 yes)),
      (λ inside. (in_terms-Decides atoms term).1 (Mentions-terms_of atoms term inside)),
    )
    ∙ ap (is_member same_term (terms_of atoms)) is ∙ sym (rw (outs-Plain variable) refl) ∙ ap (is_variable_of atoms) (sym is)

module _ (shared new : List Term) (test : Term → Bool) (term : Term) where
  pub not_a_variable : test term ≡ false → new ≡ shared → new ≡ joined_by same_term shared (filter test (term ∷ []))
  not_a_variable told same = same ∙ sym (ap (λ answer. joined_by same_term shared (cond answer (term ∷ []) [])) told)

  pub there_already : Contains shared term → new ≡ shared → new ≡ joined_by same_term shared (filter test (term ∷ []))
  there_already inside same = same ∙ by (test term)
    where
      member : is_member same_term shared term ≡ true
      member = (is_member-Decides same_term-Decides shared term).1 inside

      by : (answer : Bool) → shared ≡ joined_by same_term shared (cond answer (term ∷ []) [])
      by true = sym (ap (λ it. cond it shared (shared ++ term ∷ [])) member)
      by false = refl

  pub put_there : test term ≡ true → (Contains shared term → ⊥) → new ≡ shared ++ term ∷ [] → new ≡ joined_by same_term shared (filter test (term ∷ []))
  put_there told outside same =
      same ∙ sym (ap (λ answer. joined_by same_term shared (cond answer (term ∷ []) [])) told
      ∙ ap (λ it. cond it shared (shared ++ term ∷ [])) (no_member (is_member same_term shared term) (is_member-Decides same_term-Decides shared term)))
    where
      no_member : (answer : Bool) → Decides answer (Contains shared term) → answer ≡ false
      no_member true decides = absurd (outside (decides.0 refl))
      no_member false decides = refl

joined-append : {A : Type 0} (same : A → A → Bool) (things some more : List A)
    → joined_by same things (some ++ more) ≡ joined_by same (joined_by same things some) more
joined-append same things [] more = refl
joined-append same things (next ∷ some) more = joined-append same (cond (is_member same things next) things (things ++ next ∷ [])) some more

module _ (test : Term → Bool) (start now new : List Term) where
  -- one part more
  more_of : (before part : List Term) → now ≡ joined_by same_term start (filter test before) → new ≡ joined_by same_term now (filter test part)
      → new ≡ joined_by same_term start (filter test (before ++ part))
  more_of before part so_far step =
      step ∙ ap (λ it. joined_by same_term it (filter test part)) so_far ∙ sym (joined-append same_term start (filter test before) (filter test part))
      ∙ ap (joined_by same_term start) (sym (filter-append test before part))

  pub one_term_more : (terms : List Term) (place : ℕ) (term : Term) → place < length terms → term ≡ get_or terms place term
      → now ≡ joined_by same_term start (filter test (take place terms)) → new ≡ joined_by same_term now (filter test (term ∷ []))
      → new ≡ joined_by same_term start (filter test (take (place + 1) terms))
  one_term_more terms place term within is so_far step =
      more_of (take place terms) (term ∷ []) so_far step
      ∙ ap (λ it. joined_by same_term start (filter test it)) (ap (λ it. take place terms ++ it ∷ []) is ∙ sym (take_more terms place term within))

  pub one_atom_more : (atoms : List (Fact Term)) (place : ℕ) (atom : Fact Term) → place < length atoms → atom ≡ get_or atoms place atom
      → now ≡ joined_by same_term start (filter test (terms_of (take place atoms))) → new ≡ joined_by same_term now (filter test atom.terms)
      → new ≡ joined_by same_term start (filter test (terms_of (take (place + 1) atoms)))
  one_atom_more atoms place atom within is so_far step =
      more_of (terms_of (take place atoms)) atom.terms so_far step
      ∙ ap (λ it. joined_by same_term start (filter test it)) (
      ap (λ it. terms_of (take place atoms) ++ it) (sym (append-nil atom.terms))
      ∙ sym (flat_map-append (λ (it : Fact Term). it.terms) (take place atoms) (atom ∷ []))
      ∙ ap terms_of (ap (λ it. take place atoms ++ it ∷ []) is ∙ sym (take_more atoms place atom within)))
