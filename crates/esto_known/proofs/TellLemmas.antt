-- Terms, and places of terms, that tell what others meet.
use Rattle.std.proofs.Common.{◌≡◌, ◌⊎◌, ◌<◌, ◌≤◌, ◌+◌, inl, inr, ℕ, List, [], length, take, get_or}
use Rattle.std.proofs.Common.{Contains, sym, ap, ◌∙◌, subst, zero, suc, Bool, true, false, cond, ◌∷◌, ◌++◌, slice_get}
use Rattle.std.proofs.Common.{Option, None, Some, MatchOption, IfSome, refl, arith}
use Rattle.std.proofs.lemmas.List.{take_all}
use Rattle.std.proofs.lemmas.List.Elements.{Contains-push_cases, Contains-push}
use Rattle.esto_term.specs.declared.term.Term.{Term, out-Term}
use Rattle.esto_semantics.proofs.SubstitutionLemmas.{substituted-outside}
use Rattle.esto_term.proofs.ListLemmas.{Contains-nil, Contains-at, Contains-pushed, thing_at, HoldsBelow}
use Rattle.esto_chase_laws.specs.WorldMatches.{unless_constant, taken}
use Rattle.esto_known.specs.Told.{Tell, IsPut, IsFirstAt, IsMetAt, TellsOne}
use Rattle.esto_term.proofs.PlaceLemmas.{take-item, item_at}
use Rattle.std.proofs.lemmas.Option.{slice_get_within, none-some, same_Some}
use Rattle.esto_term.specs.Order.{same_term}
use Rattle.esto_term.specs.Kinds.{IsConstant}
use Rattle.esto_semantics.proofs.TermLemmas.{same_term-Decides}
use Rattle.esto_semantics.specs.Spreads.{substituted}
use Rattle.esto_chase_laws.proofs.TakenLemmas.{taken-Const, taken_cases}

-- ---- terms that tell

pub taken-apart : (from to others : List Term) (term : Term) → (Contains from term → ⊥) → taken from to term ≡ taken from others term
taken-apart from to others term apart = ap (unless_constant (out-Term term) term)
    (substituted-outside from to term apart ∙ sym (substituted-outside from others term apart))

-- whether the term is put in
module _ (from these : List Term) (term : Term) where
  pub put_apart : (Contains from term → ⊥) → IsPut from term these these
  put_apart apart = record { kept = λ own inside. inside; told = inr apart; among = λ own inside. inl inside }

  pub put_there : Contains these term → IsPut from term these these
  put_there there = record { kept = λ own inside. inside; told = inl there; among = λ own inside. inl inside }

  pub put_last : (later : List Term) (last : Term) → later ≡ these ++ last ∷ [] → last ≡ term → Contains from term → IsPut from term these later
  put_last later last grown same stands = record {
    kept = λ own inside. Contains-pushed these later last own grown inside;
    told = inl (subst (Contains later) same (subst (λ it. Contains it last) (sym grown) (Contains-push these last)));
    among = λ own inside. elim (Contains-push_cases these last own (subst (λ it. Contains it own) grown inside)) [
      | inl earlier ↦ inl earlier
      | inr here ↦ inr (subst (Contains from) (sym same ∙ here) stands)
    ];
  }

pub tell_none : (from these : List Term) → these ≡ [] → Tell from [] these
tell_none from these none = rw none record {
  told = λ term inside. absurd (Contains-nil term inside);
  among = λ term inside. absurd (Contains-nil term inside);
}

pub tell_turn : (from terms these later : List Term) (place : ℕ) (term : Term) → place < length terms → term ≡ get_or terms place term
    → Tell from (take place terms) these → IsPut from term these later → Tell from (take (place + 1) terms) later
tell_turn from terms these later place term within is tell put = rw (take-item terms place term within is) record {
  told = λ own inside. elim (Contains-push_cases (take place terms) term own inside) [
    | inl earlier ↦ elim (tell.told own earlier) [ inl told ↦ inl (put.kept own told) | inr apart ↦ inr apart ]
    | inr same ↦ subst (λ it. Contains later it ⊎ (Contains from it → ⊥)) same put.told
  ];
  among = λ own inside. elim (put.among own inside) [ inl earlier ↦ tell.among own earlier | inr here ↦ here ];
}

pub tell_all : (from terms these : List Term) (place : ℕ) → length terms ≤ place → Tell from (take place terms) these → Tell from terms these
tell_all from terms these place past tell = subst (λ it. Tell from it these) (take_all place terms past) tell

-- ---- two sides

pub met_at : (from : List Term) (term : Term) (place : ℕ) → (IsConstant term → ⊥) → IsFirstAt from term place → IsMetAt from term place
met_at from term place apart (at, first) = (
  Contains-at from place term at,
  (λ to it l at_it. elim (taken_cases term) [
    | inl constant ↦ absurd (apart constant)
    | inr is ↦ first to it l at_it ∙ sym (is from to)
  ]),
)

pub some_met : (from : List Term) (term : Term) (found : Option ℕ) → (IsConstant term → ⊥)
    → MatchOption found (Contains from term → ⊥) (λ place. IsFirstAt from term place) → IfSome found (λ place. IsMetAt from term place)
some_met from term None apart none = tt
some_met from term (Some place) apart first = met_at from term place apart first

pub two_sides : (sides : List Term) (left right d e : Term) → length sides ≡ 2 → left ≡ get_or sides 0 d → right ≡ get_or sides 1 e
    → sides ≡ left ∷ right ∷ []
two_sides [] left right d e long left_is right_is = absurd (omega (arith, long))
two_sides (one ∷ []) left right d e long left_is right_is = absurd (omega (arith, long))
two_sides (one ∷ two ∷ []) left right d e long left_is right_is = λ i. sym left_is i ∷ sym right_is i ∷ []
two_sides (one ∷ two ∷ three ∷ more) left right d e long left_is right_is = absurd (omega (arith, long))

-- ---- places that tell

first_is : (from : List Term) (term : Term) (place : ℕ) → ((before : ℕ) (it : Term) → before < place → slice_get from before ≡ Some it → term ≡ it → ⊥)
    → slice_get from place ≡ Some term → (to : List Term) (it : Term) → length from ≡ length to → slice_get to place ≡ Some it → it ≡ substituted from to term
first_is [] term place early at to it l at_to = absurd (none-some term at)
first_is (first ∷ from) term place early at [] it l at_to = absurd (none-some it at_to)
first_is (first ∷ from) term zero early at (target ∷ to) it l at_to =
    let same : same_term term first ≡ true = (same_term-Decides term first).1 (sym (same_Some first term at)) in
    sym (same_Some target it at_to) ∙ sym (ap (λ answer. cond answer target (substituted from to term)) same)
first_is (first ∷ from) term (suc place) early at (target ∷ to) it l at_to = by (same_term term first) refl
    (first_is from term place (λ before own below at_own. early (suc before) own (omega (arith, below)) at_own) at to it (omega (arith, l)) at_to)
  where
    by : (answer : Bool) → same_term term first ≡ answer → it ≡ substituted from to term → it ≡ substituted (first ∷ from) (target ∷ to) term
    by true told rest = absurd (early 0 first (omega arith) refl ((same_term-Decides term first).0 told))
    by false told rest = rest ∙ sym (ap (λ answer. cond answer target (substituted from to term)) told)

pub first_here : (from : List Term) (term other : Term) (place : ℕ) → place < length from → other ≡ get_or from place other → term ≡ other
    → HoldsBelow (λ _ (it : Term). term ≡ it → ⊥) from place → IsFirstAt from term place
first_here from term other place within is same early =
    let at = subst (λ it. slice_get from place ≡ Some it) (sym same) (item_at from place other within is) in (at, first_is from term place early at)

pub tells_constant : (from : List Term) (places : List ℕ) (term : Term) → IsConstant term → TellsOne from places term
tells_constant from places term (text, is) to others l k agree =
    rw is (taken-Const from to text ∙ sym (taken-Const from others text))

pub tells_apart : (from : List Term) (places : List ℕ) (term : Term) → (Contains from term → ⊥) → TellsOne from places term
tells_apart from places term apart to others l k agree = taken-apart from to others term apart

pub tells_first : (from : List Term) (places : List ℕ) (term : Term) (place : ℕ) → IsFirstAt from term place → Contains places place → TellsOne from places term
tells_first from places term place (at, first) inside to others l k agree = elim (taken_cases term) [
  | inl constant ↦ tells_constant from places term constant to others l k agree
  | inr is ↦
      let within = slice_get_within from place term at in
      let one = thing_at to place (omega (arith, within, l)) in
      let other = thing_at others place (omega (arith, within, k)) in
      let same : one.0 ≡ other.0 = same_Some one.0 other.0 (sym one.1 ∙ agree place inside ∙ other.1) in
      is from to ∙ sym (first to one.0 l one.1) ∙ same ∙ first others other.0 k other.1 ∙ sym (is from others)
]

pub tells_more : (from : List Term) (places later : List ℕ) (term : Term) → ((place : ℕ) → Contains places place → Contains later place)
    → TellsOne from places term → TellsOne from later term
tells_more from places later term kept tells to others l k agree = tells to others l k (λ place inside. agree place (kept place inside))

pub tells_inside : (from : List Term) (term : Term) (places items : List ℕ) (place : ℕ) → items ≡ places → IsFirstAt from term place → Contains items place
    → TellsOne from places term
tells_inside from term places items place same first inside = tells_first from places term place first (subst (λ it. Contains it place) same inside)

pub tells_pushed : (from : List Term) (term : Term) (places later : List ℕ) (place : ℕ) → later ≡ places ++ place ∷ [] → IsFirstAt from term place
    → TellsOne from later term
tells_pushed from term places later place grown first = rw grown (tells_first from (places ++ place ∷ []) term place first (Contains-push places place))
