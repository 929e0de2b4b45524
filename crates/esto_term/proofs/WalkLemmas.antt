-- A walk over two lists that compares them item by item: what the rests from a place on answer.
use Rattle.std.proofs.Common.{true, false, ◌≡◌, ℕ, ◌+◌, ◌-◌, ◌<◌, ◌≤◌, List, [], ◌∷◌, drop, length, get_or, refl, sym, ◌∙◌, arith, add-one, length-drop}
use Rattle.std.proofs.Math.Seq.{drop-cons}
use Rattle.std.proofs.Math.ListN.{drop_of_length-le}
use Rattle.std.proofs.lemmas.Bool.Decides.{nat_tests}
use Rattle.std.specs.declared.cmp.Ordering.{Ordering}
use Rattle.std.specs.declared.cmp.Ordering.TheVariants.{Less, Equal, Greater}
use Rattle.std.specs.Ordering.{ordering_then, nat_cmp, is_ne}
use Rattle.std.specs.Cmp.Lexicographic.{slice_cmp}

-- ---- one comparison after another

-- a comparison that is not `Equal` decides
decides : (first next : Ordering) → is_ne first ≡ true → ordering_then first next ≡ first
decides Less next differs = refl
decides Equal next differs = cc
decides Greater next differs = refl

-- one that is `Equal` leaves it to the next
leaves : (first next : Ordering) → is_ne first ≡ false → ordering_then first next ≡ next
leaves Less next same = cc
leaves Equal next same = refl
leaves Greater next same = cc

-- ---- at the end of the left list the lengths decide

slice_cmp-empty : {A : Type 0} (order : A → A → Ordering) (right : List A) → slice_cmp order [] right ≡ nat_cmp 0 (length right)
slice_cmp-empty order [] = refl
slice_cmp-empty order (first ∷ rest) = grind (arith, nat_tests)

-- a list of `left` items compares with one of `right` items as nothing compares with what is left beyond the place `left`
nat_cmp-rest : (left right place : ℕ) → left ≡ place → place ≤ right → nat_cmp 0 (right - place) ≡ nat_cmp left right
nat_cmp-rest left right place ended within = grind (arith, nat_tests)

-- ---- the rests from a place on

module _ {A : Type 0} (order : A → A → Ordering) (left right : List A) (place : ℕ) where
  -- at a place in both lists the items there are compared, and then what follows
  pub rests-step : (item other : A) → place < length left → place < length right → item ≡ get_or left place item → other ≡ get_or right place other
      → slice_cmp order (drop place left) (drop place right) ≡ ordering_then (order item other)
      (slice_cmp order (drop (place + 1) left) (drop (place + 1) right))
  rests-step item other in_left in_right is other_is =
      rw (drop-cons left place item in_left, drop-cons right place other in_right, ← is, ← other_is, add-one place) refl

  -- past the end of the right list the left one is greater
  pub rests-longer : (item : A) → place < length left → length right ≤ place → slice_cmp order (drop place left) (drop place right) ≡ Greater
  rests-longer item in_left past_right = rw (drop-cons left place item in_left, drop_of_length-le right past_right) refl

  -- at the end of the left list the lengths decide
  pub rests-end : length left ≤ place → place ≤ length left → place ≤ length right
      → slice_cmp order (drop place left) (drop place right) ≡ nat_cmp (length left) (length right)
  rests-end past_left within_left within_right =
      rw (drop_of_length-le left past_left)
      (slice_cmp-empty order (drop place right) ∙ rw (length-drop place right) (nat_cmp-rest _ _ place (omega arith) within_right))

  -- items that differ decide
  pub rests-decided : (item other : A) (answer : Ordering) → place < length left → place < length right → item ≡ get_or left place item
      → other ≡ get_or right place other
      → answer ≡ order item other → is_ne answer ≡ true → slice_cmp order (drop place left) (drop place right) ≡ answer
  rests-decided item other answer in_left in_right is other_is answers differs =
      rests-step item other in_left in_right is other_is ∙ rw (← answers) (decides answer _ differs)

  -- items that are alike leave it to what follows
  pub rests-alike : (item other : A) (answer : Ordering) → place < length left → place < length right → item ≡ get_or left place item
      → other ≡ get_or right place other
      → answer ≡ order item other → is_ne answer ≡ false
      → slice_cmp order (drop (place + 1) left) (drop (place + 1) right) ≡ slice_cmp order (drop place left) (drop place right)
  rests-alike item other answer in_left in_right is other_is answers same =
      sym (rests-step item other in_left in_right is other_is ∙ rw (← answers) (leaves answer _ same))
