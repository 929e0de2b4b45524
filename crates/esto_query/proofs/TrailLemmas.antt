-- Trails of bindings: the last binding of a variable, and what one more binding does.
use Rattle.std.proofs.Common.{◌≡◌, ◌↔◌, ℕ, suc, ◌+◌, ◌-◌, ◌<◌, ◌≤◌, Bool, true, false, cond, Some, None, Option, List, [], ◌∷◌, ◌++◌, take, length, get_or, map}
use Rattle.std.proofs.Common.{refl, sym, ap, subst, ◌∙◌, arith}
use Rattle.std.proofs.Math.Seq.{take-suc}
use Rattle.std.proofs.lemmas.List.{append_assoc, append-nil, take-map, take_at, take_all, map_push, same_from_push}
use Rattle.std.proofs.lemmas.List.Sums.{fold-append}
use Rattle.std.proofs.lemmas.Option.{same_Some, slice_get_within}
use Rattle.std.specs.List.{slice_get}
use Rattle.std.specs.Ordering.{nat_cmp, eq_by_cmp}
use Rattle.std.specs.Cmp.{nat_cmp_total}
use Rattle.std.specs.FinMap.{get, insert, get-insert}
use Rattle.esto_term.specs.declared.term.Term.{Term}
use Rattle.esto_term.specs.declared.term.Term.TheVariants.{Plain}
use Rattle.esto_term.proofs.PlaceLemmas.{take-item}
use Rattle.esto_semantics.specs.Facts.{image}
use Rattle.esto_semantics.specs.declared.fact.Fact.{Fact}
use Rattle.esto_semantics.specs.Valuations.{Assignment, Extends}
use Rattle.esto_query.specs.Trails.{with_trail, Narrows, Excludes, Grew, Tries}
use Rattle.esto_query.specs.declared.trail.Binding.{Binding}
use Rattle.esto_semantics.proofs.ValuationLemmas.{same_key, other_key, Extends-insert}

-- ---- the valuation of a trail

pub with_trail-push : (start : Assignment) (trail : List Binding) (binding : Binding)
    → with_trail start (trail ++ binding ∷ []) ≡ insert (with_trail start trail) binding.variable binding.term.now
with_trail-push start trail binding = fold-append (λ (known : Assignment) (b : Binding). insert known b.variable b.term.now) start trail (binding ∷ [])

-- a valuation with one more binding of a trail
pub trail_more : (start : Assignment) (trail : List Binding) (place : ℕ) (binding : Binding) (valuation more : Assignment) (term : Term)
    → place < length trail → binding ≡ get_or trail place binding → valuation ≡ with_trail start (take place trail) → term ≡ binding.term.now
    → more ≡ insert valuation binding.variable term → more ≡ with_trail start (take (place + 1) trail)
trail_more start trail place binding valuation more term within at so_far is grown =
    grown ∙ ap (λ (known : Assignment). insert known binding.variable term) so_far ∙ ap (insert (with_trail start (take place trail)) binding.variable) is
    ∙ sym (with_trail-push start (take place trail) binding) ∙ ap (with_trail start) (sym (take-item trail place binding within at))

module _ (start : Assignment) (trail : List Binding) (variable : ℕ) where
  -- what the first i bindings give, where a later one hides an earlier one
  abbrev pub given_by : ℕ → Option Term
  given_by i = get (with_trail start (take i trail)) variable

  given_step : (i : ℕ) (binding : Binding) → 0 < i → i ≤ length trail → binding ≡ get_or trail (i - 1) binding
      → given_by i ≡ cond (eq_by_cmp nat_cmp variable binding.variable) (Some binding.term.now) (given_by (i - 1))
  given_step i binding some within read =
      let more : i ≡ suc (i - 1) = omega arith in
      let below : i - 1 < length trail = omega arith in
      ap given_by more
      ∙ ap (λ bs. get (with_trail start bs) variable) (take-suc trail (i - 1) binding below)
      ∙ ap (λ b. get (with_trail start (take (i - 1) trail ++ b ∷ [])) variable) (sym read)
      ∙ ap (λ (known : Assignment). get known variable) (with_trail-push start (take (i - 1) trail) binding)
      ∙ get-insert nat_cmp_total (with_trail start (take (i - 1) trail)) binding.variable binding.term.now variable

  pub given_found : (i : ℕ) (binding : Binding) → 0 < i → i ≤ length trail → binding ≡ get_or trail (i - 1) binding → binding.variable ≡ variable
      → given_by i ≡ Some binding.term.now
  given_found i binding some within read same =
      given_step i binding some within read ∙ ap (λ b. cond b (Some binding.term.now) (given_by (i - 1))) (same_key _ _ same)

  pub given_passed : (i : ℕ) (binding : Binding) → 0 < i → i ≤ length trail → binding ≡ get_or trail (i - 1) binding → (binding.variable ≡ variable → ⊥)
      → given_by (i - 1) ≡ given_by i
  given_passed i binding some within read apart =
      sym (given_step i binding some within read ∙ ap (λ b. cond b (Some binding.term.now) (given_by (i - 1))) (other_key _ _ apart))

  pub given_start : (i : ℕ) → i ≤ 0 → given_by i ≡ get start variable
  given_start i l = let e : i ≡ 0 = omega arith in rw e refl

-- ---- lists that grow

pub Grew-same : {X : Type 0} (a : List X) → Grew a a
Grew-same a = ([], sym (append-nil a))

pub Grew-then : {X : Type 0} (a b c : List X) → Grew a b → Grew b c → Grew a c
Grew-then a b c (more, p) (later, q) = (more ++ later, q ∙ ap (λ z. z ++ later) p ∙ append_assoc a more later)

pub Grew-take : {X : Type 0} (n : ℕ) (a b : List X) → length a ≡ n → Grew a b → take n b ≡ a
Grew-take n a b l (more, p) = ap (take n) p ∙ take_at a more n l

-- what a part that failed is cut back to
pub undone : {X : Type 0} (n : ℕ) (old now mid new cut : List X) → length old ≡ n → now ≡ old → Grew now mid → new ≡ mid → cut ≡ take n new → cut ≡ old
undone n old now mid new cut l same grew missed is_cut =
    is_cut ∙ ap (take n) missed ∙ Grew-take n now mid (ap length same ∙ l) grew ∙ same

-- ---- attempts

pub Tries-weaker : (start : Assignment) (old new : List Binding) (outcome : Bool) (P Q : (Term → Term) → Type 0) → ((m : Term → Term) → P m ↔ Q m)
    → Tries start old new outcome P → Tries start old new outcome Q
Tries-weaker start old new true P Q same tried = (
  tried.0,
  λ m keeps. (
    λ extends. let both = (tried.1 m keeps).0 extends in (both.0, (same m).0 both.1),
    λ both. (tried.1 m keeps).1 (both.0, (same m).1 both.1),
  ),
)
Tries-weaker start old new false P Q same tried = (tried.0, λ m keeps extends q. tried.1 m keeps extends ((same m).1 q))

pub Tries-pushed : (start : Assignment) (old new : List Binding) (binding : Binding) (term target : Term) → term ≡ Plain binding.variable
    → binding.term.now ≡ target → get (with_trail start old) binding.variable ≡ None → new ≡ old ++ binding ∷ []
    → Tries start old new true (λ m. m term ≡ target)
Tries-pushed start old new binding term target plain value none grown = (
  (binding ∷ [], grown),
  λ m keeps.
      let step = Extends-insert (with_trail start old) binding.variable binding.term.now m none in
      let is_new : with_trail start new ≡ insert (with_trail start old) binding.variable binding.term.now =
      ap (with_trail start) grown ∙ with_trail-push start old binding in (
        λ extends. let both = step.0 (subst (Extends m) is_new extends) in (both.0, ap m plain ∙ both.1 ∙ value),
        λ both. subst (Extends m) (sym is_new) (step.1 (both.0, sym (ap m plain) ∙ both.1 ∙ sym value)),
      ),
)

-- ---- rows

-- two rows agree up to i + 1 where they agree up to i and at i
row_next : (m : Term → Term) (xs ys : List Term) (i : ℕ) (x y : Term) → i < length xs → i < length ys → x ≡ get_or xs i x → y ≡ get_or ys i y
    → (map m (take (i + 1) xs) ≡ take (i + 1) ys) ↔ ((map m (take i xs) ≡ take i ys) × (m x ≡ y))
row_next m xs ys i x y l k read_x read_y =
    let left : map m (take (i + 1) xs) ≡ map m (take i xs) ++ m x ∷ [] =
    ap (map m) (take-item xs i x l read_x) ∙ map_push m (take i xs) x in
    let right : take (i + 1) ys ≡ take i ys ++ y ∷ [] = take-item ys i y k read_y in (
      λ e. same_from_push (map m (take i xs)) (take i ys) (m x) y (sym left ∙ e ∙ right),
      λ both. left ∙ ap (λ z. z ++ m x ∷ []) both.0 ∙ ap (λ z. take i ys ++ z ∷ []) both.1 ∙ sym right,
    )

module _ (start : Assignment) (old now : List Binding) (xs ys : List Term) (i : ℕ) (x y : Term) (l : i < length xs) (k : i < length ys)
    (read_x : x ≡ get_or xs i x) (read_y : y ≡ get_or ys i y) where
  pub Narrows-row : (new : List Binding) → Narrows (with_trail start old) (with_trail start now) (λ m. map m (take i xs) ≡ take i ys)
      → Narrows (with_trail start now) (with_trail start new) (λ m. m x ≡ y)
      → Narrows (with_trail start old) (with_trail start new) (λ m. map m (take (i + 1) xs) ≡ take (i + 1) ys)
  Narrows-row new before here m keeps =
      let next = row_next m xs ys i x y l k read_x read_y in (
        λ extends. let h = (here m keeps).0 extends in let b = (before m keeps).0 h.0 in (b.0, next.1 (b.1, h.1)),
        λ both. let n = next.0 both.1 in (here m keeps).1 ((before m keeps).1 (both.0, n.0), n.1),
      )

  pub Excludes-row : Narrows (with_trail start old) (with_trail start now) (λ m. map m (take i xs) ≡ take i ys) → Excludes (with_trail start now) (λ m. m x ≡ y)
      → Excludes (with_trail start old) (λ m. map m xs ≡ ys)
  Excludes-row before here m keeps extends whole =
      let cut : map m (take (i + 1) xs) ≡ take (i + 1) ys = sym (take-map m (i + 1) xs) ∙ ap (take (i + 1)) whole in
      let next = (row_next m xs ys i x y l k read_x read_y).0 cut in
      here m keeps ((before m keeps).1 (extends, next.0)) next.1

pub Narrows-whole : (start : Assignment) (old new : List Binding) (xs ys : List Term) (i : ℕ) → length xs ≤ i → length ys ≤ i
    → Narrows (with_trail start old) (with_trail start new) (λ m. map m (take i xs) ≡ take i ys)
    → Narrows (with_trail start old) (with_trail start new) (λ m. map m xs ≡ ys)
Narrows-whole start old new xs ys i l k before m keeps =
    let same : (map m (take i xs) ≡ take i ys) ↔ (map m xs ≡ ys) = (
      λ e. ap (map m) (sym (take_all i xs l)) ∙ e ∙ take_all i ys k,
      λ e. ap (map m) (take_all i xs l) ∙ e ∙ sym (take_all i ys k),
    ) in (
      λ extends. let both = (before m keeps).0 extends in (both.0, same.0 both.1),
      λ both. (before m keeps).1 (both.0, same.1 both.1),
    )

-- ---- atoms

pub Tries-atom : (start : Assignment) (old new : List Binding) (outcome : Bool) (atom fact : Fact Term) → atom.relation ≡ fact.relation
    → Tries start old new outcome (λ m. map m atom.terms ≡ fact.terms) → Tries start old new outcome (λ m. image m atom ≡ fact)
Tries-atom start old new outcome atom fact same =
    Tries-weaker start old new outcome (λ m. map m atom.terms ≡ fact.terms) (λ m. image m atom ≡ fact) (λ m. (
      λ e. ap (λ (r : ℕ). record { relation = r; terms = map m atom.terms }) same
          ∙ ap (λ (row : List Term). record { relation = fact.relation; terms = row }) e,
      λ e. ap (λ (f : Fact Term). f.terms) e,
    ))

-- ---- facts at a place

pub Tries-place : (start : Assignment) (old new : List Binding) (outcome : Bool) (atom fact : Fact Term) (facts : List (Fact Term)) (place : ℕ)
    → slice_get facts place ≡ Some fact → Tries start old new outcome (λ m. image m atom ≡ fact)
    → Tries start old new outcome (λ m. slice_get facts place ≡ Some (image m atom))
Tries-place start old new outcome atom fact facts place at =
    Tries-weaker start old new outcome (λ m. image m atom ≡ fact) (λ m. slice_get facts place ≡ Some (image m atom))
    (λ m. (λ e. at ∙ ap Some (sym e), λ e. same_Some _ _ (sym e ∙ at)))

-- where there is no fact
pub Tries-out : (start : Assignment) (trail : List Binding) (atom : Fact Term) (facts : List (Fact Term)) (place : ℕ) → length facts ≤ place
    → Tries start trail trail false (λ m. slice_get facts place ≡ Some (image m atom))
Tries-out start trail atom facts place out = (refl, λ m keeps extends at. let within = slice_get_within facts place _ at in absurd (omega arith))
