-- Which variables a body mentions, and what every query keeps.
use Rattle.std.proofs.Common.{◌≡◌, ℕ, ◌<◌, List, [], ◌∷◌, length, get_or, take, Contains, Some, refl, sym, ap, subst, ◌∙◌, inl, inr}
use Rattle.std.specs.Coded.{le_prop}
use Rattle.std.proofs.Math.Logic.{∥∥₁_elim, ∥∥₁_prop}
use Rattle.std.proofs.Math.Path.{to_path_p}
use Rattle.std.proofs.lemmas.Option.{slice_get_read}
use Rattle.esto_term.specs.declared.term.Term.{Term, out-Term, roll-Term, roll-out-Term}
use Rattle.esto_term.specs.declared.term.Term.TheOpen.{Term-F}
use Rattle.esto_term.specs.declared.term.Term.TheVariants.{Const, Plain, Made, outs-Const, outs-Plain, outs-Made, rolls-Const, rolls-Plain, rolls-Made}
use Rattle.esto_semantics.specs.Facts.{Mentions}
use Rattle.esto_semantics.specs.Maps.{IsFlat, IsFixedBy}
use Rattle.esto_semantics.specs.declared.fact.Fact.{Fact}
use Rattle.esto_query.specs.Soundness.{IsSafe, IsSound}
use Rattle.esto_query.specs.Making.{IsFirstUnsafe}
use Rattle.esto_query.specs.declared.query.Name.{Name}
use Rattle.esto_query.specs.declared.query.Query.{Query}
use Rattle.esto_term.proofs.ListLemmas.{Contains-cases, Contains-head, Contains-nil, Contains-rest}
use Rattle.esto_term.proofs.ChoiceLemmas.{Decided}
use Rattle.esto_semantics.proofs.JoinLemmas.{Contains-decided}

-- ---- what a body mentions is decided

pub mentions_decided : (body : List (Fact Term)) (term : Term) → Decided (Mentions body term)
mentions_decided [] term = inr (λ mentioned. Contains-nil mentioned.0 mentioned.1)
mentions_decided (atom ∷ rest) term = by (Contains-decided atom.terms term) (mentions_decided rest term)
  where
    by : Decided (Contains atom.terms term) → Decided (Mentions rest term) → Decided (Mentions (atom ∷ rest) term)
    by (inl here) later = inl (atom, Contains-head atom rest, here)
    by (inr outside) (inl later) = inl (later.0, Contains-rest atom rest later.0 later.1, later.2)
    by (inr outside) (inr none) = inr (λ mentioned. elim (Contains-cases atom rest mentioned.0 mentioned.1) [
      | inl is ↦ outside (subst (λ (a : Fact Term). Contains a.terms term) (sym is) mentioned.2)
      | inr later ↦ none (mentioned.0, later, mentioned.2)
    ])

-- ---- kinds of terms

pub Plain-Const : (number : ℕ) (text : List ℕ) → Plain number ≡ Const text → ⊥
Plain-Const number text e =
    let same : Term-F.Plain number ≡ Term-F.Const text = sym (outs-Plain number) ∙ ap out-Term e ∙ outs-Const text in cc

pub Made-flat : (rule variable : ℕ) (frontier : List Term) → IsFlat (Made rule variable frontier) → ⊥
Made-flat rule variable frontier (inl constant) =
    let same : Term-F.Made rule variable frontier ≡ Term-F.Const constant.0 =
    sym (outs-Made rule variable frontier) ∙ ap out-Term constant.1 ∙ outs-Const constant.0 in cc
Made-flat rule variable frontier (inr plain) =
    let same : Term-F.Made rule variable frontier ≡ Term-F.Plain plain.0 = sym (outs-Made rule variable frontier) ∙ ap out-Term plain.1 ∙ outs-Plain plain.0 in
    cc

-- ---- what is not refuted

flat_kind : (term : Term) (level : Term-F Term) → term ≡ roll-Term level → ¬ (¬ (IsFlat term)) → IsFlat term
flat_kind term (Term-F.Const text) e known = inl (text, e ∙ rolls-Const text)
flat_kind term (Term-F.Plain number) e known = inr (number, e ∙ rolls-Plain number)
flat_kind term (Term-F.Made rule variable frontier) e known =
    absurd (known (λ flat. Made-flat rule variable frontier (subst IsFlat (e ∙ rolls-Made rule variable frontier) flat)))

pub flat_known : (term : Term) → ¬ (¬ (IsFlat term)) → IsFlat term
flat_known term known = flat_kind term (out-Term term) (sym (roll-out-Term term)) known

fixed_plain : (body : List (Fact Term)) (variable : ℕ) → Decided (Mentions body (Plain variable)) → ¬ (¬ (IsFixedBy body (Plain variable)))
    → IsFixedBy body (Plain variable)
fixed_plain body variable (inl mentioned) known = inr mentioned
fixed_plain body variable (inr missing) known = absurd (known refuted)
  where
    refuted : IsFixedBy body (Plain variable) → ⊥
    refuted (inl constant) = Plain-Const variable constant.0 constant.1
    refuted (inr mentioned) = missing mentioned

fixed_known : (body : List (Fact Term)) (term : Term) → IsFlat term → ¬ (¬ (IsFixedBy body term)) → IsFixedBy body term
fixed_known body term (inl constant) known = inl constant
fixed_known body term (inr plain) known =
    subst (IsFixedBy body) (sym plain.1)
    (fixed_plain body plain.0 (mentions_decided body (Plain plain.0)) (λ no. known (λ fixed. no (subst (IsFixedBy body) plain.1 fixed))))

-- ---- what every query keeps

pub sound_of : (head : List Term) (body : List (Fact Term)) (names : List Name) → ∥ IsSound head body names ∥₁ → IsSound head body names
sound_of head body names sound = record {
  query = record {
    has_head = λ none. refute (λ kept. kept.query.has_head none);
    has_body = λ none. refute (λ kept. kept.query.has_body none);
    flat_head = flat_in_head;
    flat_body = λ term at. flat_known term (λ no. refute (λ kept. no (kept.query.flat_body term at)));
    safe = λ term at. fixed_known body term (flat_in_head term at) (λ no. refute (λ kept. no (kept.query.safe term at)));
  };
  named = λ variable at. ∥∥₁_elim sound le_prop (λ kept. kept.named variable at);
}
  where
    refute : (IsSound head body names → ⊥) → ⊥
    refute f = ∥∥₁_elim sound (λ p q. absurd p) f

    flat_in_head : (term : Term) → Contains head term → IsFlat term
    flat_in_head term at = flat_known term (λ no. refute (λ kept. no (kept.query.flat_head term at)))

-- ---- the first atom with a wrong number of terms, and the first unsafe variable

pub unsafe_at : (head : List Term) (body : List (Fact Term)) (place variable : ℕ) (term : Term) → place < length head → term ≡ get_or head place term
    → term ≡ Plain variable → ¬ (Mentions body (Plain variable)) → IsSafe (take place head) body → IsFirstUnsafe head body variable
unsafe_at head body place variable term within read plain missing before = record {
  place = place;
  there = slice_get_read head (length head) place term refl within read ∙ ap Some plain;
  missing = missing;
  before = before;
}

-- ---- queries of the same parts are the same

pub same_query : (one other : Query) → one.head ≡ other.head → one.body ≡ other.body → one.names ≡ other.names → one ≡ other
same_query one other head body names = λ i. record {
  head = head i;
  body = body i;
  names = names i;
  sound = to_path_p (λ j. ∥ IsSound (head j) (body j) (names j) ∥₁) {a = one.sound} {b = other.sound} (∥∥₁_prop _ other.sound) i;
}
