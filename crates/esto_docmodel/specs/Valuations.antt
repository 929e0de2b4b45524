-- The matches of a pattern in a node, as valuations of the variables after `:`.
use Rattle.std.specs.Prelude.{◌≡◌, ◌↔◌, ℕ, ◌<◌, List, Some, IsSome, Contains}
use Rattle.std.specs.FinMap.{get}
use Rattle.std.specs.declared.cmp.Ordering.TheVariants.{Less}
use Rattle.esto_term.specs.Order.{term_cmp}
use Rattle.esto_term.specs.declared.term.Term.{Term}
use Rattle.esto_term.specs.declared.term.Term.TheVariants.{Const, Plain}
use Rattle.esto_semantics.specs.Maps.{IsConstant, IsFlat, Keeps}
use Rattle.esto_semantics.specs.Valuations.{Assignment, Extends}
use Rattle.esto_docmodel.specs.Forests.{Node}
use Rattle.esto_docmodel.specs.Patterns.{Entries, Matches, Mentions}

-- After each `:` stands a constant or a variable.
abbrev pub HaveFlatTerms : Entries → Type 0
HaveFlatTerms entries = (term : Term) → Mentions entries term → IsFlat term

-- A map that keeps constants matches the entries in the node exactly where it extends one of the valuations.
abbrev pub AreMatches : Entries → Node → List Assignment → Type 0
AreMatches entries start valuations = (m : Term → Term) → Keeps Const m
    → Matches m entries start ↔ ((valuation : Assignment) × Contains valuations valuation × Extends m valuation)

-- The valuation gives a term to exactly the variables that stand after `:` in the entries.
abbrev pub BindsVariables : Entries → Assignment → Type 0
BindsVariables entries valuation = (variable : ℕ) → IsSome (get valuation variable) ↔ Mentions entries (Plain variable)

-- Each term that the valuation gives is a text.
abbrev pub GivesTexts : Assignment → Type 0
GivesTexts valuation = (variable : ℕ) (term : Term) → get valuation variable ≡ Some term → IsConstant term

-- A valuation comes before another: at some variable it gives the lesser term, and at the variables of lesser numbers both give the same.
abbrev pub ComesBefore : Assignment → Assignment → Type 0
ComesBefore valuation other = (variable : ℕ) × (lesser : Term) × (greater : Term) × (get valuation variable ≡ Some lesser)
    × (get other variable ≡ Some greater) × (term_cmp lesser greater ≡ Less)
    × ((earlier : ℕ) → earlier < variable → get valuation earlier ≡ get other earlier)
