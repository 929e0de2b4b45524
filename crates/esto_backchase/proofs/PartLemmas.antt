-- Minimal sets of parts.
use Rattle.std.proofs.Common.{◌≡◌, ◌↔◌, Bool, List, length}
use Rattle.esto_term.specs.declared.term.Term.{Term}
use Rattle.esto_semantics.specs.Access.{Patterns, HoldsOfPart}
use Rattle.esto_term.specs.Sets.{IsMinimal}
use Rattle.esto_semantics.specs.declared.fact.Fact.{Fact}

module _ (patterns : Patterns) (atoms : List (Fact Term)) where
  -- what one property says of parts another says that holds of each set of the atoms that the first holds of
  part_as : (P Q : List Bool → Type 0) → ((set : List Bool) → length set ≡ length atoms → P set → Q set)
      → (set : List Bool) → HoldsOfPart patterns atoms P set → HoldsOfPart patterns atoms Q set
  part_as P Q goes set of_part = record {
    over = of_part.over;
    part = of_part.part;
    is_part = of_part.is_part;
    holds = goes of_part.part (of_part.is_part.executable.1).over of_part.holds;
  }

  -- properties of the same sets of the atoms have the same minimal sets of parts
  pub of_parts_as : (P Q : List Bool → Type 0) → ((set : List Bool) → length set ≡ length atoms → P set ↔ Q set)
      → (set : List Bool) → IsMinimal (HoldsOfPart patterns atoms P) set → IsMinimal (HoldsOfPart patterns atoms Q) set
  of_parts_as P Q same set (of_part, least) = (
    part_as P Q (λ it over. (same it over).0) set of_part,
    λ other other_part within. least other (part_as Q P (λ it over. (same it over).1) other other_part) within,
  )
