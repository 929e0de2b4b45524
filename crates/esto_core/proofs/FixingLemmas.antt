-- The valuation that fixes terms.
use Rattle.std.proofs.Common.{◌≡◌, ◌↔◌, ℕ, ◌+◌, ◌<◌, Bool, true, false, cond, Some, List, [], ◌∷◌, ◌++◌, take, length, get_or, map, refl, sym, ap, ◌∙◌, subst}
use Rattle.std.proofs.Common.{arith}
use Rattle.std.proofs.lemmas.Bool.Decides.{nat_tests}
use Rattle.std.proofs.lemmas.List.{map_push, same_from_push}
use Rattle.std.proofs.lemmas.Option.{none-some, same_Some}
use Rattle.std.specs.Cmp.{nat_cmp_total}
use Rattle.std.specs.FinMap.{get, insert, empty, get-empty, get-insert}
use Rattle.std.specs.Ordering.{nat_cmp, eq_by_cmp}
use Rattle.esto_term.specs.declared.term.Term.{Term}
use Rattle.esto_term.specs.declared.term.Term.TheVariants.{Const, Plain}
use Rattle.esto_term.proofs.ListLemmas.{map_itself}
use Rattle.esto_term.proofs.PlaceLemmas.{take-item}
use Rattle.esto_semantics.specs.Valuations.{Assignment, Extends}
use Rattle.esto_core.specs.Left.{IsFixing}

own_key : (number : ℕ) → eq_by_cmp nat_cmp number number ≡ true
own_key number = grind (arith, nat_tests)

same_key : (number other : ℕ) → eq_by_cmp nat_cmp number other ≡ true → number ≡ other
same_key number other told = grind (arith, nat_tests)

-- a map sends a row with a further term to itself where it sends both to themselves
fixed_more : (m : Term → Term) (terms : List Term) (term : Term)
    → (map m (terms ++ term ∷ []) ≡ terms ++ term ∷ []) ↔ ((map m terms ≡ terms) × (m term ≡ term))
fixed_more m terms term = (
  λ same. same_from_push (map m terms) terms (m term) term (sym (map_push m terms term) ∙ same),
  λ both. map_push m terms term ∙ ap (λ row. row ++ m term ∷ []) both.0 ∙ ap (λ it. terms ++ it ∷ []) both.1,
)

pub fixing-none : (terms : List Term) (start : Assignment) → terms ≡ [] → start ≡ empty → IsFixing terms start
fixing-none terms start none is m keeps = (
  λ extends. subst (λ row. map m row ≡ row) (sym none) refl,
  λ same variable term told. absurd (none-some term (sym (get-empty nat_cmp variable) ∙ ap (λ (known : Assignment). get known variable) (sym is) ∙ told)),
)

module _ (terms : List Term) (old : Assignment) (is : IsFixing terms old) where
  -- a constant is fixed by every map that keeps constants
  pub fixing-constant : (new : Assignment) (text : List ℕ) (term : Term) → term ≡ Const text → new ≡ old → IsFixing (terms ++ term ∷ []) new
  fixing-constant new text term constant grown m keeps = (
    λ extends. (fixed_more m terms term).1 ((is m keeps).0 (subst (Extends m) grown extends), ap m constant ∙ keeps text ∙ sym constant),
    λ same. subst (Extends m) (sym grown) ((is m keeps).1 ((fixed_more m terms term).0 same).0),
  )

  module _ (new : Assignment) (variable : ℕ) (grown : new ≡ insert old variable (Plain variable)) where
    -- the old valuation gives each of its variables itself
    own : (number : ℕ) (term : Term) → get old number ≡ Some term → Plain number ≡ term
    own = (is (λ term. term) (λ text. refl)).1 (map_itself terms)

    told : (number : ℕ) → get new number ≡ cond (eq_by_cmp nat_cmp number variable) (Some (Plain variable)) (get old number)
    told number = ap (λ (known : Assignment). get known number) grown ∙ get-insert nat_cmp_total old variable (Plain variable) number

    told_by : (number : ℕ) (answer : Bool) → eq_by_cmp nat_cmp number variable ≡ answer → get new number ≡ cond answer (Some (Plain variable)) (get old number)
    told_by number answer test = told number ∙ ap (λ it. cond it (Some (Plain variable)) (get old number)) test

    extends-new : (m : Term → Term) → Extends m new ↔ (Extends m old × (m (Plain variable) ≡ Plain variable))
    extends-new m = (λ extends. (kept extends, here extends), more)
      where
        here : Extends m new → m (Plain variable) ≡ Plain variable
        here extends = extends variable (Plain variable) (told_by variable true (own_key variable))

        kept : Extends m new → Extends m old
        kept extends number term at = by (eq_by_cmp nat_cmp number variable) refl
          where
            by : (answer : Bool) → eq_by_cmp nat_cmp number variable ≡ answer → m (Plain number) ≡ term
            by true test =
                let same = same_key number variable test in
                ap (λ it. m (Plain it)) same ∙ here extends ∙ ap Plain (sym same) ∙ own number term at
            by false test = extends number term (told_by number false test ∙ at)

        more : Extends m old × (m (Plain variable) ≡ Plain variable) → Extends m new
        more both number term at = by (eq_by_cmp nat_cmp number variable) refl
          where
            by : (answer : Bool) → eq_by_cmp nat_cmp number variable ≡ answer → m (Plain number) ≡ term
            by true test =
                ap (λ it. m (Plain it)) (same_key number variable test) ∙ both.1
                ∙ same_Some (Plain variable) term (sym (told_by number true test) ∙ at)
            by false test = both.0 number term (sym (told_by number false test) ∙ at)

    -- a variable is fixed where it is given itself
    pub fixing-variable : (term : Term) → term ≡ Plain variable → IsFixing (terms ++ term ∷ []) new
    fixing-variable term plain m keeps = (
      λ extends.
          let both = (extends-new m).0 extends in
          (fixed_more m terms term).1 ((is m keeps).0 both.0, ap m plain ∙ both.1 ∙ sym plain),
      λ same.
          let both = (fixed_more m terms term).0 same in
          (extends-new m).1 ((is m keeps).1 both.0, sym (ap m plain) ∙ both.1 ∙ plain),
    )

pub fixing-next : (terms : List Term) (place : ℕ) (term : Term) (new : Assignment) → place < length terms → term ≡ get_or terms place term
    → IsFixing (take place terms ++ term ∷ []) new → IsFixing (take (place + 1) terms) new
fixing-next terms place term new within is fixing =
    subst (λ row. IsFixing row new) (sym (take-item terms place term within is)) fixing
