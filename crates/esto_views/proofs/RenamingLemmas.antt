-- The renaming of terms by place, and its way back.
use Rattle.std.proofs.Common.{◌≡◌, zero, suc, ℕ, ◌+◌, true, false, List, [], ◌∷◌, ◌++◌}
use Rattle.std.proofs.Common.{get_or, take, slice_get, Contains, Some, refl, sym, ap, ◌∙◌, subst, arith}
use Rattle.std.specs.Option.{unwrap_or}
use Rattle.std.proofs.lemmas.List.Elements.{Contains-push}
use Rattle.std.proofs.lemmas.Option.{slice_get_within, get_or_from_slice_get}
use Rattle.esto_term.specs.declared.term.Term.{Term, out-Term}
use Rattle.esto_term.specs.declared.term.Term.TheOpen.{Term-F}
use Rattle.esto_term.specs.declared.term.Term.TheVariants.{Const, Plain, outs-Const, outs-Plain}
use Rattle.esto_term.specs.Order.{same_term}
use Rattle.esto_semantics.proofs.TermLemmas.{same_term-Decides}
use Rattle.esto_semantics.proofs.SubstitutionLemmas.{apart_told, cond_is}
use Rattle.esto_views.specs.Reading.{OccursBefore, AreFirstOccurrences}
use Rattle.esto_views.specs.Renamings.{IsRenaming, numbered}
use Rattle.esto_term.proofs.ListLemmas.{Contains-head, Contains-rest}
use Rattle.esto_term.proofs.PlaceLemmas.{Contains-take_from}

numbered-at : (number : ℕ) (seen : List Term) (place : ℕ) (term : Term) → slice_get seen place ≡ Some term → (Contains (take place seen) term → ⊥)
    → numbered number seen term ≡ Plain (number + place)
numbered-at number [] place term at first = absurd (cc)
numbered-at number (one ∷ seen) zero term at first =
    let is : term ≡ one = cc in
    let same : number ≡ number + 0 = omega arith in
    cond_is (same_term term one) true (Plain number) (numbered (number + 1) seen term) ((same_term-Decides term one).1 is) ∙ ap Plain same
numbered-at number (one ∷ seen) (suc place) term at first =
    let same : number + 1 + place ≡ number + suc place = omega arith in
    cond_is (same_term term one) false (Plain number) (numbered (number + 1) seen term)
    (apart_told term one (λ is. first (subst (Contains (one ∷ take place seen)) (sym is) (Contains-head one (take place seen)))))
    ∙ numbered-at (number + 1) seen place term at (λ inside. first (Contains-rest one (take place seen) term inside)) ∙ ap Plain same

pub numbered_first : (seen : List Term) (place : ℕ) (term : Term) → slice_get seen place ≡ Some term → (Contains (take place seen) term → ⊥)
    → numbered 0 seen term ≡ Plain place
numbered_first seen place term at first = let same : 0 + place ≡ place = omega arith in numbered-at 0 seen place term at first ∙ ap Plain same

pub numbered-outside : (number : ℕ) (seen : List Term) (term : Term) → (Contains seen term → ⊥) → numbered number seen term ≡ term
numbered-outside number [] term outside = refl
numbered-outside number (first ∷ seen) term outside =
    cond_is (same_term term first) false (Plain number) (numbered (number + 1) seen term) (apart_told term first (λ is. outside (0, omega arith, sym is)))
    ∙ numbered-outside (number + 1) seen term (λ inside. outside (suc inside.0, omega (arith, inside.1), inside.2))

-- ---- the terms seen are distinct, and none is a constant

apart_before : (terms : List Term) (term other : Term) → OccursBefore terms term other → term ≡ other → ⊥
apart_before terms term other (front, (back, is, without)) same = without (subst (Contains (front ++ term ∷ [])) same (Contains-push front term))

-- a term is seen at one place
seen_once : (terms seen : List Term) → AreFirstOccurrences terms seen → (place : ℕ) (term : Term) → slice_get seen place ≡ Some term
    → Contains (take place seen) term → ⊥
seen_once terms seen are_seen place term at earlier =
    let found = Contains-take_from seen place term earlier in
    apart_before terms (get_or seen found.0 term) (get_or seen place term)
    (are_seen.ordered found.0 place term found.1 (slice_get_within seen place term at))
    (get_or_from_slice_get seen found.0 term term found.2 ∙ sym (get_or_from_slice_get seen place term term at))

pub numbered_renames : (terms seen : List Term) → AreFirstOccurrences terms seen → IsRenaming seen (numbered 0 seen)
numbered_renames terms seen are_seen = record {
  keeps = λ text. numbered-outside 0 seen (Const text) (λ inside. ((are_seen.exact (Const text)).0 inside).1 (text, refl));
  numbers = λ place term at. numbered_first seen place term at (seen_once terms seen are_seen place term at);
}

-- ---- the way back

abbrev back_step : List Term → Term → Term-F Term → Term
back_step seen term (Term-F.Const _) = term
back_step seen term (Term-F.Plain number) = unwrap_or (slice_get seen number) term
back_step seen term (Term-F.Made _ _ _) = term

-- the term that became the variable; each other term stays
abbrev pub back : List Term → Term → Term
back seen term = back_step seen term (out-Term term)

pub back-Const : (seen : List Term) (text : List ℕ) → back seen (Const text) ≡ Const text
back-Const seen text = ap (back_step seen (Const text)) (outs-Const text)

pub back-Plain : (seen : List Term) (place : ℕ) (term : Term) → slice_get seen place ≡ Some term → back seen (Plain place) ≡ term
back-Plain seen place term at = ap (back_step seen (Plain place)) (outs-Plain place) ∙ ap (λ it. unwrap_or it (Plain place)) at
