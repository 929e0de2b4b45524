-- The least active match, atom by atom.
use Rattle.std.proofs.Common.{◌≡◌, ℕ, ◌<◌, ◌≤◌, ◌++◌, Bool, true, false, List, [], ◌∷◌, length, get_or, take, Contains, Some}
use Rattle.std.proofs.Common.{refl, sym, ap, subst, ◌∙◌, inl, inr, arith}
use Rattle.std.proofs.lemmas.Bool.{cases_lt}
use Rattle.std.specs.List.{slice_get}
use Rattle.std.proofs.lemmas.List.{append-nil, append_assoc, length-take-le, get_or-take, get_or_default}
use Rattle.esto_term.specs.declared.term.Term.{Term}
use Rattle.esto_term.specs.declared.term.Term.TheVariants.{Const}
use Rattle.esto_semantics.specs.Facts.{image}
use Rattle.esto_semantics.specs.Maps.{Keeps}
use Rattle.esto_semantics.specs.Matches.{IsMatch, IsAtMost}
use Rattle.esto_semantics.specs.Rules.{Rule}
use Rattle.esto_semantics.specs.declared.fact.Fact.{Fact}
use Rattle.esto_semantics.proofs.FactLemmas.{Sends-match}
use Rattle.esto_query.specs.Active.{Holds, Tells, IsLeastActiveFrom, FindsLeast}
use Rattle.esto_query.specs.Indexes.{AreCandidates}
use Rattle.esto_query.specs.Trails.{with_trail, Narrows}
use Rattle.esto_semantics.specs.Valuations.{Assignment, Extends}
use Rattle.esto_query.specs.declared.trail.Binding.{Binding}
use Rattle.esto_query.proofs.ActiveLemmas.{HoldsAt}
use Rattle.esto_query.proofs.PlaceLemmas.{IsAtMost-nil, IsAtMost-least}

-- with no atom left
pub least_at_end : (facts : List (Fact Term)) (rule : Rule) (start : Assignment) (old new : List Binding) (places : List ℕ) → new ≡ old → (is : Bool)
    → Tells (with_trail start old) (Holds facts rule) is → FindsLeast facts rule start [] old new places places is
least_at_end facts rule start old new places same true tells = (
  [],
  sym (append-nil places),
  record {
    exact = λ m keeps. (
      λ extends. (subst (λ trail. Extends m (with_trail start trail)) same extends, tt),
      λ both. subst (λ trail. Extends m (with_trail start trail)) (sym same) both.0,
    );
    active = λ m keeps extends. tells m keeps (subst (λ trail. Extends m (with_trail start trail)) same extends);
    least = λ m others keeps extends match fails. IsAtMost-nil others;
  },
)
least_at_end facts rule start old new places same false tells = (same, refl, λ m keeps extends sends. tells m keeps extends)

module _ (facts : List (Fact Term)) (rule : Rule) (known : Assignment) (atom : Fact Term) (rest : List (Fact Term)) (found : List ℕ)
    (served : AreCandidates facts atom known found) (i place : ℕ) (within : i < length found) (read : place ≡ get_or found i place)
    (before : (other : ℕ) → Contains (take i found) other → HoldsAt facts rule known atom rest other) where
  seen : (k q : ℕ) → k < i → get_or found k q ≡ q → Contains (take i found) q
  seen k q less at = (k, omega (arith, length-take-le i found (omega (arith, within))), get_or-take i found k q less ∙ at)

  -- an active match goes to this place or a later one
  at_or_after : (m : Term → Term) (q : ℕ) (qs : List ℕ) → Keeps Const m → Extends m known → IsMatch m (atom ∷ rest) facts (q ∷ qs)
      → ¬ (Holds facts rule m) → place ≤ q
  at_or_after m q qs keeps extends match fails =
      let has = served.complete m q keeps extends match.0 in
      elim (cases_lt has.0 i) [
        | inl less ↦ absurd (fails (before q (seen has.0 q less has.2) m keeps extends match.0 (Sends-match m rest facts qs match.1)))
        | inr later ↦
            let up = served.rising i has.0 q later has.1 in
            let own : get_or found i q ≡ place = get_or_default found i q place within ∙ sym read in
            omega (arith, up, own, has.2)
      ]

  module _ (mid : Assignment) (step : Narrows known mid (λ m. slice_get facts place ≡ Some (image m atom))) where
    pub least_onto : (valuation : Assignment) (later : List ℕ) → IsLeastActiveFrom facts rule mid rest valuation later
        → IsLeastActiveFrom facts rule known (atom ∷ rest) valuation (place ∷ later)
    least_onto valuation later least = record {
      exact = λ m keeps. (
        λ extends.
            let after = (least.exact m keeps).0 extends in
            let first = (step m keeps).0 after.0 in
            (first.0, (first.1, after.1)),
        λ both. (least.exact m keeps).1 ((step m keeps).1 (both.0, both.1.0), both.1.1),
      );
      active = least.active;
      least = by;
    }
      where
        by : (m : Term → Term) (others : List ℕ) → Keeps Const m → Extends m known → IsMatch m (atom ∷ rest) facts others → ¬ (Holds facts rule m)
            → IsAtMost (place ∷ later) others
        by m [] keeps extends match fails = absurd match
        by m (q ∷ qs) keeps extends match fails =
            IsAtMost-least place q later qs (at_or_after m q qs keeps extends match fails)
            (λ same. least.least m qs keeps ((step m keeps).1 (extends, ap (slice_get facts) (sym same) ∙ match.0)) match.1 fails)

-- the found match of the rest, with its first place
pub found_onto : (facts : List (Fact Term)) (rule : Rule) (start : Assignment) (atom : Fact Term) (rest : List (Fact Term)) (old mid new : List Binding)
    (place : ℕ) (places_old places_mid places_new : List ℕ)
    → ((valuation : Assignment) (later : List ℕ) → IsLeastActiveFrom facts rule (with_trail start mid) rest valuation later
    → IsLeastActiveFrom facts rule (with_trail start old) (atom ∷ rest) valuation (place ∷ later))
    → places_mid ≡ places_old ++ place ∷ [] → FindsLeast facts rule start rest mid new places_mid places_new true
    → FindsLeast facts rule start (atom ∷ rest) old new places_old places_new true
found_onto facts rule start atom rest old mid new place places_old places_mid places_new onto pushed found = (
  place ∷ found.0,
  found.1 ∙ ap (λ places. places ++ found.0) pushed ∙ append_assoc places_old (place ∷ []) found.0,
  onto (with_trail start new) found.0 found.2,
)

-- what a search from no place finds
pub least_searched : (facts : List (Fact Term)) (rule : Rule) (start valuation : Assignment) (body : List (Fact Term)) (old new : List Binding)
    (places_old places_new : List ℕ) → places_old ≡ [] → valuation ≡ with_trail start new → FindsLeast facts rule start body old new places_old places_new true
    → IsLeastActiveFrom facts rule (with_trail start old) body valuation places_new
least_searched facts rule start valuation body old new places_old places_new none is found =
    let whole : found.0 ≡ places_new = sym (found.1 ∙ ap (λ z. z ++ found.0) none) in
    subst (λ it. IsLeastActiveFrom facts rule (with_trail start old) body it places_new) (sym is)
    (subst (λ places. IsLeastActiveFrom facts rule (with_trail start old) body (with_trail start new) places) whole found.2)
