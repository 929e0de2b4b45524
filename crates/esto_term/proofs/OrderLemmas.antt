-- The order of terms is total, and answers `Equal` at equal terms alone. The order goes down into frontiers, so these laws
-- are shown first of the order that stops at a depth, by induction on the depth. At terms that are less high than the
-- depth the two orders agree.
use Rattle.std.proofs.Common.{◌≡◌, ℕ, max, ◌+◌, ◌<◌, suc, zero, List, [], ◌∷◌, map, refl, sym, ap, ◌∙◌, arith}
use Rattle.std.specs.List.{AllByRecursion}
use Rattle.std.specs.declared.cmp.Ordering.{Ordering}
use Rattle.std.specs.declared.cmp.Ordering.TheVariants.{Equal}
use Rattle.std.specs.Ordering.{ordering_then, nat_cmp, ordering_reverse}
use Rattle.std.specs.Cmp.{IsTotalOrder}
use Rattle.std.specs.Cmp.Derive.{point_total}
use Rattle.std.specs.Cmp.Lexicographic.{slice_cmp}
use Rattle.std.proofs.lemmas.Cmp.{nat_cmp_total, nat_list_cmp_total, lists_total, on_total, then_total}
use Rattle.std.proofs.lemmas.Map.Lookups.{CmpEqualImpliesEq, exact_unsigned, exact_bytes}
use Rattle.esto_term.specs.declared.term.Term.{Term, out-Term, roll-Term, roll-out-Term, fold-Term, fold_out-Term, para-roll-Term, map-Term}
use Rattle.esto_term.specs.declared.term.Term.TheOpen.{Term-F}
use Rattle.esto_term.specs.Nesting.{nesting, nesting_above}
use Rattle.esto_term.specs.Order.{kind, text, number, rule, variable, frontier, level_cmp, term_cmp}
use Rattle.esto_term.proofs.TotalOrderLemmas.{first_equal, next_equal}

-- ---- two terms compare by their levels

-- to map the first parts of pairs is to map what the pairs were made of
map-paired : {A B C : Type 0} → (f : A → C) (g : A → B) (items : List A) → map (λ (pair : A × B). f pair.0) (map (λ item. (item, g item)) items) ≡ map f items
map-paired f g [] = refl
map-paired f g (first ∷ rest) = ap (λ mapped. f first ∷ mapped) (map-paired f g rest)

-- lists compare alike whether each left item comes with its own comparison or not
slice_cmp-paired : {A B : Type 0} (order : A → B → Ordering) (left : List A) (right : List B)
    → slice_cmp (λ (pair : A × (B → Ordering)) other. pair.1 other) (map (λ item. (item, order item)) left) right ≡ slice_cmp order left right
slice_cmp-paired order [] [] = refl
slice_cmp-paired order [] (other ∷ others) = refl
slice_cmp-paired order (first ∷ rest) [] = refl
slice_cmp-paired order (first ∷ rest) (other ∷ others) = ap (ordering_then (order first other)) (slice_cmp-paired order rest others)

-- and so do levels
level_cmp-paired : (order : Term → Term → Ordering) (left right : Term-F Term)
    → level_cmp (λ (pair : Term × (Term → Ordering)). nesting pair.0) nesting (λ pair other. pair.1 other)
    (map-Term Term (Term × (Term → Ordering)) (λ part. (part, order part)) left) right
    ≡ level_cmp nesting nesting order left right
level_cmp-paired order (Term-F.Const bytes) right = refl
level_cmp-paired order (Term-F.Plain n) right = refl
level_cmp-paired order (Term-F.Made r v parts) right =
    let nestings = map-paired nesting order parts in
    let frontiers = slice_cmp-paired order parts (frontier right) in
    rw (nestings, frontiers) refl

pub term_cmp-levels : (left right : Term) → term_cmp left right ≡ level_cmp nesting nesting term_cmp (out-Term left) (out-Term right)
term_cmp-levels left right =
    ap (λ term. term_cmp term right) (sym (roll-out-Term left))
    ∙ ap (λ (against : Term → Ordering). against right)
    (para-roll-Term (Term → Ordering) (λ level other. level_cmp (λ pair. nesting pair.0) nesting (λ pair part. pair.1 part) level (out-Term other))
    (out-Term left))
    ∙ level_cmp-paired term_cmp (out-Term left) (out-Term right)

-- ---- the height of a term, which unlike its nesting has no greatest number

-- the greatest of the numbers, or 0 where there is none
abbrev greatest : List ℕ → ℕ
greatest [] = 0
greatest (first ∷ rest) = max first (greatest rest)

-- a made term is higher than each term of its frontier
abbrev level_height : Term-F ℕ → ℕ
level_height (Term-F.Const _) = 0
level_height (Term-F.Plain _) = 0
level_height (Term-F.Made _ _ heights) = suc (greatest heights)

height : Term → ℕ
height = fold-Term ℕ level_height

all_lower : (terms : List Term) (bound : ℕ) → greatest (map height terms) < bound → AllByRecursion (λ term. height term < bound) terms
all_lower [] bound low = tt
all_lower (first ∷ rest) bound low = (omega arith, all_lower rest bound (omega arith))

-- the frontier terms of a term are lower than the term
frontier_lower : (term : Term) (bound : ℕ) → height term < suc bound → AllByRecursion (λ part. height part < bound) (frontier (out-Term term))
unfolding height
frontier_lower term bound low = level (out-Term term) (rw (fold_out-Term ℕ level_height term) at low)
  where
    level : (level : Term-F Term) → level_height (map-Term Term ℕ height level) < suc bound → AllByRecursion (λ part. height part < bound) (frontier level)
    level (Term-F.Const _) low = tt
    level (Term-F.Plain _) low = tt
    level (Term-F.Made _ _ parts) low = all_lower parts bound (omega arith)

-- ---- the order that looks no deeper than to a depth

-- at depth 0 all terms are alike
abbrev cmp_within : ℕ → Term → Term → Ordering
cmp_within zero = λ _ _. Equal
cmp_within (suc depth) = λ left right. level_cmp nesting nesting (cmp_within depth) (out-Term left) (out-Term right)

cmp_within_total : (depth : ℕ) → IsTotalOrder (cmp_within depth)
cmp_within_total zero = point_total
cmp_within_total (suc depth) =
    on_total out-Term
    (then_total (on_total kind nat_cmp_total)
    (then_total (on_total text nat_list_cmp_total)
    (then_total (on_total number nat_cmp_total)
    (then_total (on_total (λ level. nesting_above (map nesting (frontier level))) nat_cmp_total)
    (then_total (on_total rule nat_cmp_total)
    (then_total (on_total variable nat_cmp_total)
    (on_total frontier (lists_total (cmp_within_total depth)))))))))

-- lists compare alike by two orders that agree at each item of the left list
lists_agree : (one other : Term → Term → Ordering) (P : Term → Type 0) → ((left right : Term) → P left → one left right ≡ other left right)
    → (left right : List Term) → AllByRecursion P left → slice_cmp one left right ≡ slice_cmp other left right
lists_agree one other P same [] [] all = refl
lists_agree one other P same [] (y ∷ ys) all = refl
lists_agree one other P same (x ∷ xs) [] all = refl
lists_agree one other P same (x ∷ xs) (y ∷ ys) all = λ i. ordering_then (same x y all.0 i) (lists_agree one other P same xs ys all.1 i)

-- at a term lower than the depth the order is the one that stops there
orders_agree : (depth : ℕ) (left right : Term) → height left < depth → term_cmp left right ≡ cmp_within depth left right
orders_agree zero left right low = absurd (omega arith)
orders_agree (suc depth) left right low =
    let frontiers =
    lists_agree term_cmp (cmp_within depth) (λ part. height part < depth) (orders_agree depth) (frontier (out-Term left)) (frontier (out-Term right))
    (frontier_lower left depth low) in
    rw term_cmp-levels (rw frontiers refl)

-- ---- the order is total

pub term_cmp_total : IsTotalOrder term_cmp
term_cmp_total = record {
  antisymm = λ x y.
      let depth : ℕ = suc (height x + height y) in
      orders_agree depth x y (omega arith) ∙ (cmp_within_total depth).antisymm x y ∙ sym (ap ordering_reverse (orders_agree depth y x (omega arith)));
  trans = λ x y z first second.
      let depth : ℕ = suc (height x + height y + height z) in
      orders_agree depth x z (omega arith)
      ∙ (cmp_within_total depth).trans x y z (sym (orders_agree depth x y (omega arith)) ∙ first) (sym (orders_agree depth y z (omega arith)) ∙ second);
  congr = λ x y z tied.
      let depth : ℕ = suc (height x + height y + height z) in
      orders_agree depth x z (omega arith)
      ∙ (cmp_within_total depth).congr x y z (sym (orders_agree depth x y (omega arith)) ∙ tied)
      ∙ sym (orders_agree depth y z (omega arith));
}

-- ---- the order answers `Equal` at equal terms alone

-- an order that is exact at the terms of which P holds is exact at lists of them, and at levels over them
module _ (order : Term → Term → Ordering) (P : Term → Type 0) (exact : (left right : Term) → P left → order left right ≡ Equal → left ≡ right) where
  lists_exact : (left right : List Term) → AllByRecursion P left → slice_cmp order left right ≡ Equal → left ≡ right
  lists_exact [] [] all tied = refl
  lists_exact [] (y ∷ ys) all tied = cc
  lists_exact (x ∷ xs) [] all tied = cc
  lists_exact (x ∷ xs) (y ∷ ys) all tied = λ i. exact x y all.0 (first_equal _ _ tied) i ∷ lists_exact xs ys all.1 (next_equal _ _ tied) i

  levels_exact : (left right : Term-F Term) → AllByRecursion P (frontier left) → level_cmp nesting nesting order left right ≡ Equal → left ≡ right
  levels_exact (Term-F.Const bytes) (Term-F.Const others) all tied = ap Term-F.Const (exact_bytes bytes others (first_equal _ _ tied))
  levels_exact (Term-F.Plain n) (Term-F.Plain m) all tied = ap Term-F.Plain (exact_unsigned n m (first_equal _ _ tied))
  levels_exact (Term-F.Made r v parts) (Term-F.Made q w others) all tied =
      let from_rule = next_equal (nat_cmp (nesting_above (map nesting parts)) (nesting_above (map nesting others))) _ tied in
      let from_variable = next_equal (nat_cmp r q) _ from_rule in
      let from_frontier = next_equal (nat_cmp v w) _ from_variable in
      λ i. Term-F.Made (exact_unsigned r q (first_equal _ _ from_rule) i) (exact_unsigned v w (first_equal _ _ from_variable) i)
      (lists_exact parts others all from_frontier i)
  levels_exact (Term-F.Const bytes) (Term-F.Plain m) all tied = cc
  levels_exact (Term-F.Const bytes) (Term-F.Made q w others) all tied = cc
  levels_exact (Term-F.Plain n) (Term-F.Const others) all tied = cc
  levels_exact (Term-F.Plain n) (Term-F.Made q w others) all tied = cc
  levels_exact (Term-F.Made r v parts) (Term-F.Const others) all tied = cc
  levels_exact (Term-F.Made r v parts) (Term-F.Plain m) all tied = cc

cmp_within_exact : (depth : ℕ) (left right : Term) → height left < depth → cmp_within depth left right ≡ Equal → left ≡ right
cmp_within_exact zero left right low tied = absurd (omega arith)
cmp_within_exact (suc depth) left right low tied =
    let levels =
    levels_exact (cmp_within depth) (λ part. height part < depth) (cmp_within_exact depth) (out-Term left) (out-Term right)
    (frontier_lower left depth low) tied in
    sym (roll-out-Term left) ∙ ap roll-Term levels ∙ roll-out-Term right

pub term_cmp_exact : CmpEqualImpliesEq term_cmp
term_cmp_exact left right tied =
    let depth : ℕ = suc (height left) in
    cmp_within_exact depth left right (omega arith) (sym (orders_agree depth left right (omega arith)) ∙ tied)
