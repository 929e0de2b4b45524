-- Finite valuations: the last binding of a variable in a list, and the map of a valuation.
use Rattle.std.proofs.Common.{◌≡◌, ◌↔◌, ℕ, suc, ◌-◌, ◌<◌, ◌≤◌, Bool, true, false, cond, Option, Some, None, List, [], ◌∷◌, reverse, take, length, get_or}
use Rattle.std.proofs.Common.{unwrap_or, refl, sym, ap, ◌∙◌, arith}
use Rattle.std.proofs.Math.Seq.{take-suc}
use Rattle.std.proofs.lemmas.List.{reverse-append}
use Rattle.std.proofs.lemmas.Option.{none-some, same_Some}
use Rattle.std.proofs.lemmas.Bool.Decides.{nat_tests}
use Rattle.std.specs.Ordering.{nat_cmp, eq_by_cmp}
use Rattle.std.specs.Cmp.{nat_cmp_total}
use Rattle.std.specs.FinMap.{FinMap, find, get, insert, from_entries, get-from_entries, get-insert}
use Rattle.esto_term.specs.declared.term.Term.{Term}
use Rattle.esto_term.specs.declared.term.Term.TheVariants.{Const, Plain, outs-Const, outs-Plain}
use Rattle.esto_semantics.specs.Maps.{Keeps}
use Rattle.esto_semantics.specs.Valuations.{Assignment, Extends, value_by_kind, map_of}

-- ---- tests of variables

pub same_key : (m n : ℕ) → m ≡ n → eq_by_cmp nat_cmp n m ≡ true
same_key m n e = grind (arith, nat_tests)

pub other_key : (m n : ℕ) → (m ≡ n → ⊥) → eq_by_cmp nat_cmp n m ≡ false
other_key m n e = grind (arith, nat_tests)

key_same : (m n : ℕ) → eq_by_cmp nat_cmp n m ≡ true → m ≡ n
key_same m n e = grind (arith, nat_tests)

-- ---- the last binding of a variable, sought from the end

module _ {X : Type 0} (es : List (ℕ × X)) (q : ℕ) where
  -- what the first i entries give, where a later one hides an earlier one
  abbrev pub last_of : ℕ → Option X
  last_of i = find nat_cmp q (reverse (take i es))

  last_step : (i : ℕ) (e : ℕ × X) → 0 < i → i ≤ length es → e ≡ get_or es (i - 1) e → last_of i ≡ cond (eq_by_cmp nat_cmp q e.0) (Some e.1) (last_of (i - 1))
  last_step i e some within read =
      let more : i ≡ suc (i - 1) = omega arith in
      let below : i - 1 < length es = omega arith in
      ap last_of more
      ∙ ap (λ ys. find nat_cmp q (reverse ys)) (take-suc es (i - 1) e below)
      ∙ ap (find nat_cmp q) (reverse-append (take (i - 1) es) (get_or es (i - 1) e ∷ []))
      ∙ ap (λ d. cond (eq_by_cmp nat_cmp q d.0) (Some d.1) (last_of (i - 1))) (sym read)

  pub last_found : (i : ℕ) (e : ℕ × X) → 0 < i → i ≤ length es → e ≡ get_or es (i - 1) e → e.0 ≡ q → last_of i ≡ Some e.1
  last_found i e some within read same = last_step i e some within read ∙ ap (λ b. cond b (Some e.1) (last_of (i - 1))) (same_key _ _ same)

  pub last_passed : (i : ℕ) (e : ℕ × X) → 0 < i → i ≤ length es → e ≡ get_or es (i - 1) e → (e.0 ≡ q → ⊥) → last_of (i - 1) ≡ last_of i
  last_passed i e some within read apart = sym (last_step i e some within read ∙ ap (λ b. cond b (Some e.1) (last_of (i - 1))) (other_key _ _ apart))

  pub last_none : (i : ℕ) → i ≤ 0 → last_of i ≡ None
  last_none i l = let e : i ≡ 0 = omega arith in rw e refl

  pub last_read : (bs : List (ℕ × X)) (m : FinMap nat_cmp X) → es ≡ bs → from_entries (reverse bs) ≡ m → find nat_cmp q (reverse es) ≡ get m q
  last_read bs m e view_is = ap (λ ys. find nat_cmp q (reverse ys)) e ∙ sym (get-from_entries nat_cmp_total (reverse bs) q) ∙ ap (λ w. get w q) view_is

-- ---- the map of a valuation

pub map_of-Const : (valuation : Assignment) (text : List ℕ) → map_of valuation (Const text) ≡ Const text
map_of-Const valuation text = ap (value_by_kind valuation (Const text)) (outs-Const text)

pub map_of-Plain : (valuation : Assignment) (variable : ℕ) → map_of valuation (Plain variable) ≡ unwrap_or (get valuation variable) (Plain variable)
map_of-Plain valuation variable = ap (value_by_kind valuation (Plain variable)) (outs-Plain variable)

pub Keeps-map_of : (valuation : Assignment) → Keeps Const (map_of valuation)
Keeps-map_of valuation text = map_of-Const valuation text

pub Extends-map_of : (valuation : Assignment) → Extends (map_of valuation) valuation
Extends-map_of valuation variable term at = map_of-Plain valuation variable ∙ ap (λ o. unwrap_or o (Plain variable)) at

-- ---- one more binding

kept : (known : Assignment) (variable number : ℕ) (new term : Term) (b : Bool) → eq_by_cmp nat_cmp number variable ≡ b → get known variable ≡ None
    → get known number ≡ Some term → cond b (Some new) (get known number) ≡ Some term
kept known variable number new term true test none at = absurd (none-some term (sym none ∙ ap (get known) (key_same variable number test) ∙ at))
kept known variable number new term false test none at = at

split : (known : Assignment) (variable number : ℕ) (new term : Term) (m : Term → Term) (b : Bool) → eq_by_cmp nat_cmp number variable ≡ b → Extends m known
    → m (Plain variable) ≡ new → cond b (Some new) (get known number) ≡ Some term → m (Plain number) ≡ term
split known variable number new term m true test extends here at = ap (λ n. m (Plain n)) (sym (key_same variable number test)) ∙ here ∙ same_Some new term at
split known variable number new term m false test extends here at = extends number term at

pub Extends-insert : (known : Assignment) (variable : ℕ) (new : Term) (m : Term → Term) → get known variable ≡ None
    → Extends m (insert known variable new) ↔ (Extends m known × (m (Plain variable) ≡ new))
Extends-insert known variable new m none = (
  λ extends. (
    λ number term at. extends number term
        (get-insert nat_cmp_total known variable new number ∙ kept known variable number new term (eq_by_cmp nat_cmp number variable) refl none at),
    extends variable new (get-insert nat_cmp_total known variable new variable
        ∙ ap (λ b. cond b (Some new) (get known variable)) (same_key variable variable refl)),
  ),
  λ both number term at. split known variable number new term m (eq_by_cmp nat_cmp number variable) refl both.0 both.1
      (sym (get-insert nat_cmp_total known variable new number) ∙ at),
)
