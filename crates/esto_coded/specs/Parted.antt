-- For private clauses: a part of the facts, made from the rows all of whose codes are among some codes.
use Rattle.std.specs.Prelude.{◌≡◌, ◌-◌, ◌<◌, ◌≤◌, ℕ, Bool, cond, List, [], Option, Some, None, filter, map, slice_get, nat_eq, IfSome}
use Rattle.std.specs.List.{list_any}
use Rattle.esto_term.specs.declared.term.Term.{Term}
use Rattle.esto_term.specs.declared.term.Term.TheVariants.{Const, Plain}
use Rattle.esto_columns.specs.CodedRows.{CodedRows}
use Rattle.esto_relmodel.specs.Parts.{IsPartFor}
use Rattle.esto_semantics.specs.Rules.{Rule}
use Rattle.esto_semantics.specs.declared.fact.Fact.{Fact}
use Rattle.esto_rows.specs.Wanted.{are_among}
use Rattle.esto_coded.specs.Coded.{Coded, StandInOrder, facts_over, rows_in}
use Rattle.esto_coded.specs.Spread.{Spreads}
use Rattle.esto_coded.specs.declared.coded.TheConstants.{FIRST_NODE}

-- The constant of the text that a code has, or else a plain term by how far the code is past the first code of a node.
abbrev pub term_step : ℕ → Option (List ℕ) → Term
term_step code (Some text) = Const text
term_step code None = Plain (code - FIRST_NODE)

-- The term for which the code stands.
abbrev pub term_of : List (List ℕ) → ℕ → Term
term_of texts code = term_step code (slice_get texts code)

-- The row of codes as a fact over the relation of the number.
abbrev pub fact_of : List (List ℕ) → ℕ → List ℕ → Fact Term
fact_of texts number row = record { relation = number; terms = map (term_of texts) row }

-- Those of the rows all of whose codes are among the codes, as facts, in order.
abbrev pub kept_facts : List (List ℕ) → List ℕ → ℕ → List (List ℕ) → List (Fact Term)
kept_facts texts codes number rows = map (fact_of texts number) (filter (are_among codes) rows)

-- Whether one of the atoms is over the relation of the number.
abbrev pub is_asked : List (Fact Term) → ℕ → Bool
is_asked atoms number = list_any (λ (atom : Fact Term). nat_eq atom.relation number) atoms

-- The kept facts of a relation that one of the atoms is over; of another relation none.
abbrev pub asked_facts : List (List ℕ) → List (Fact Term) → List ℕ → ℕ → List (List ℕ) → List (Fact Term)
asked_facts texts atoms codes number rows = cond (is_asked atoms number) (kept_facts texts codes number rows) []

-- The facts over each relation below the count are those that are asked of its rows, and there are no others.
pub record ArePartBelow (texts : List (List ℕ)) (relations : List CodedRows) (atoms : List (Fact Term)) (codes : List ℕ) (count : ℕ)
    (facts : List (Fact Term)) : Type 0 where
  pub below : (number : ℕ) → number < count → facts_over number facts ≡ asked_facts texts atoms codes number (rows_in relations number)
  pub past : (number : ℕ) → count ≤ number → facts_over number facts ≡ []

-- The facts over each relation are those that are asked of its rows.
abbrev pub ArePart : Coded → List (Fact Term) → List ℕ → List (Fact Term) → Type 0
ArePart coded atoms codes facts = (number : ℕ) → facts_over number facts ≡ asked_facts coded.texts atoms codes number (rows_in coded.relations number)

-- The facts are the part for the atoms of the body by codes that spread from these over the other atoms, beginning with the leading terms.
abbrev pub IsSpreadPart : Coded → List Term → List (Fact Term) → List (Fact Term) → List ℕ → List (Fact Term) → Type 0
IsSpreadPart coded lead over body seed facts = (codes : List ℕ) × Spreads coded lead over seed codes × ArePart coded body codes facts

-- What is answered, if anything, is a part for the rule of all facts for which the rows stand in order.
abbrev pub GivesPart : Coded → Rule → Option (List (Fact Term)) → Type 0
GivesPart coded rule answer = IfSome answer (λ part. (all : List (Fact Term)) → StandInOrder coded all → IsPartFor rule all part)
