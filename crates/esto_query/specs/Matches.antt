-- Least matches of a body in a list of facts.
use Rattle.std.specs.Prelude.{◌⊎◌, ◌↔◌, ℕ, List, IsSome}
use Rattle.std.specs.FinMap.{get}
use Rattle.esto_term.specs.declared.term.Term.{Term}
use Rattle.esto_term.specs.declared.term.Term.TheVariants.{Const, Plain}
use Rattle.esto_semantics.specs.Facts.{Mentions}
use Rattle.esto_semantics.specs.Maps.{Keeps}
use Rattle.esto_semantics.specs.Matches.{IsMatch, IsAtMost}
use Rattle.esto_semantics.specs.declared.fact.Fact.{Fact}
use Rattle.esto_semantics.specs.Valuations.{Assignment, Extends}

-- The found valuation is the start with a term for each variable of the body, and with no other variable; and the maps that extend it are exactly those that
-- extend the start and send each atom to the fact at its place.
pub record IsFound (body facts : List (Fact Term)) (start found : Assignment) (places : List ℕ) : Type 0 where
  pub exact : (m : Term → Term) → Keeps Const m → Extends m found ↔ (Extends m start × IsMatch m body facts places)
  pub variables : (variable : ℕ) → IsSome (get found variable) ↔ (IsSome (get start variable) ⊎ Mentions body (Plain variable))

-- It is a match whose places are within a range, and no match from the start on that is within the range comes before it.
pub record IsLeastMatch (body facts : List (Fact Term)) (start : Assignment) (Within : List ℕ → Type 0) (found : Assignment) (places : List ℕ) : Type 0 where
  pub is_found : IsFound body facts start found places
  pub within : Within places
  pub least : (m : Term → Term) (others : List ℕ) → Keeps Const m → Extends m start → IsMatch m body facts others → Within others → IsAtMost places others

-- No map that keeps constants and extends the start has a match within the range.
abbrev pub HasNoMatch : List (Fact Term) → List (Fact Term) → Assignment → (List ℕ → Type 0) → Type 0
HasNoMatch body facts start Within =
    (m : Term → Term) (places : List ℕ) → Keeps Const m → Extends m start → IsMatch m body facts places → ¬ (Within places)
