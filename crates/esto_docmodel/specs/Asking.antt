-- A pattern as a query that is made once, and the facts of documents that its atoms can go to.
use Rattle.std.specs.Prelude.{◌≡◌, ◌==◌, ◌<◌, Bool, true, List, AllPairs}
use Rattle.std.specs.List.{list_any}
use Rattle.esto_term.specs.declared.term.Term.{Term}
use Rattle.esto_semantics.specs.declared.fact.Fact.{Fact}
use Rattle.esto_docmodel.specs.Matching.{AreVariables, head_of, IsEncoding}
use Rattle.esto_docmodel.specs.Patterns.{Entries}
use Rattle.esto_docmodel.specs.Valuations.{HaveFlatTerms}
use Rattle.esto_docmodel.specs.declared.kept.Kept.{Kept}
use Rattle.esto_docmodel.specs.declared.kept.KeptTexts.TheVariants.{Every}
use Rattle.esto_docmodel.specs.declared.matches.AskedPattern.{AskedPattern}

-- Whether one of the atoms, over the five relations from 0 on, asks which nodes stand below others.
abbrev pub asks_below : List (Fact Term) → Bool
asks_below body = list_any (λ (atom : Fact Term). atom.relation == 4) body

-- All facts of documents are kept, but those of `below` only where it is said.
abbrev pub all_but_below : Bool → Kept
all_but_below said = record { base = 0; root = true; field = Every; item = true; value = Every; below = said }

-- The query is that of the entries for the terms of their variables, in the order of their numbers.
pub record IsAskedBy (entries : Entries) (asked : AskedPattern) : Type 0 where
  pub flat : HaveFlatTerms entries
  pub ascending : AllPairs ◌<◌ asked.variables.items
  pub variables : AreVariables entries asked.variables.items
  pub head : asked.query.head ≡ head_of asked.variables.items
  pub body : IsEncoding entries asked.query.body
