-- How it is found whether a query maps to facts, head to head: the maps that send the one head to the other come first.
use Rattle.std.specs.Prelude.{◌≡◌, ◌↔◌, ℕ, List, map}
use Rattle.std.specs.Bool.{⊤}
use Rattle.std.specs.FinMap.{empty}
use Rattle.esto_term.specs.declared.term.Term.{Term}
use Rattle.esto_term.specs.declared.term.Term.TheVariants.{Const}
use Rattle.esto_semantics.specs.Valuations.{Assignment, Extends}
use Rattle.esto_semantics.specs.Maps.{Keeps}
use Rattle.esto_semantics.specs.declared.fact.Fact.{Fact}
use Rattle.esto_query.specs.Matches.{HasNoMatch, IsLeastMatch}

-- A row of terms as a fact.
abbrev pub row_fact : List Term → Fact Term
row_fact terms = record { relation = 0; terms = terms }

-- No map that keeps constants matches the body in the facts.
abbrev pub NoneMatches : List (Fact Term) → List (Fact Term) → Type 0
NoneMatches body facts = HasNoMatch body facts empty (λ _. ⊤)

-- The valuation is that of the least match of the body in the facts.
abbrev pub IsOfMatch : List (Fact Term) → List (Fact Term) → Assignment → Type 0
IsOfMatch body facts valuation = (places : List ℕ) × IsLeastMatch body facts empty (λ _. ⊤) valuation places

-- No map that keeps constants sends the one row to the other.
abbrev pub NoneSends : List Term → List Term → Type 0
NoneSends terms targets = (m : Term → Term) → Keeps Const m → ¬ (map m terms ≡ targets)

-- The maps that keep constants and extend the valuation are exactly those that send the one row to the other.
abbrev pub IsSending : List Term → List Term → Assignment → Type 0
IsSending terms targets start = (m : Term → Term) → Keeps Const m → Extends m start ↔ (map m terms ≡ targets)
