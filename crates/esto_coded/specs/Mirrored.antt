-- For private clauses: bodies of two halves, each of which is the other under another naming of terms.
use Rattle.std.specs.Prelude.{◌≡◌, ◌⊎◌, cond, List, [], ◌∷◌, map, Contains}
use Rattle.esto_term.specs.Order.{same_term}
use Rattle.esto_term.specs.declared.term.Term.{Term}
use Rattle.esto_term.specs.declared.term.Term.TheVariants.{Const}
use Rattle.esto_semantics.specs.Facts.{image, Mentions}
use Rattle.esto_semantics.specs.Maps.{IsConstant, Keeps}
use Rattle.esto_semantics.specs.declared.fact.Fact.{Fact}

-- What stands for the term: of two lists, the second's term where the first has it; a term that is not there stays.
abbrev pub renamed : List Term → List Term → Term → Term
renamed [] others term = term
renamed (one ∷ rest) [] term = term
renamed (one ∷ rest) (two ∷ others) term = cond (same_term one term) two (renamed rest others term)

-- The map makes the one half the other and the one side the other, keeps constants, and leaves the shared terms as they are.
pub record GoesOver (m : Term → Term) (first second : List (Fact Term)) (left right : Term) (shared : List Term) : Type 0 where
  pub keeps : Keeps Const m
  pub atoms : map (image m) first ≡ second
  pub side : m left ≡ right
  pub stay : map m shared ≡ shared

-- Each half goes over to the other, and each side to the other. The left side stands in the first half; what stands in both is a constant or shared.
pub record IsMirrored (first second : List (Fact Term)) (left right : Term) (shared : List Term) : Type 0 where
  pub there : (m : Term → Term) × GoesOver m first second left right shared
  pub back : (m : Term → Term) × GoesOver m second first right left shared
  pub inside : Mentions first left
  pub own : (term : Term) → Contains shared term → Mentions first term
  pub common : (term : Term) → Mentions first term → Mentions second term → IsConstant term ⊎ Contains shared term
