-- Facts as rows of codes, relation by relation, read as sets.
use Rattle.std.specs.Prelude.{◌≡◌, ◌≢◌, ◌⊎◌, ◌==◌, ℕ, ◌+◌, ◌≤◌, List, Some, filter, map, slice_get, length, Contains, AllPairs}
use Rattle.std.specs.List.{AllZip}
use Rattle.esto_term.specs.declared.term.Term.{Term}
use Rattle.esto_term.specs.declared.term.Term.TheVariants.{Const, Plain}
use Rattle.esto_columns.specs.CodedRows.{CodedRows}
use Rattle.esto_semantics.specs.declared.fact.Fact.{Fact}
use Rattle.esto_steps.specs.Rows.{held_by}
use Rattle.esto_coded.specs.declared.coded.TheConstants.{FIRST_NODE}

-- Texts, in the order of their codes, and for each relation its rows of codes.
pub record Coded : Type 0 where
  pub texts : List (List ℕ)
  pub relations : List CodedRows

-- The code stands for the term: for a constant it is the place of its text, and for a plain term so many past the first code of a node.
abbrev pub IsCodeOf : List (List ℕ) → Term → ℕ → Type 0
IsCodeOf texts term code =
    ((text : List ℕ) × (term ≡ Const text) × (slice_get texts code ≡ Some text))
    ⊎ ((node : ℕ) × (term ≡ Plain node) × (code ≡ FIRST_NODE + node))

-- The codes stand for the terms, one each.
abbrev pub AreCodesOf : List (List ℕ) → List Term → List ℕ → Type 0
AreCodesOf texts terms codes = AllZip (IsCodeOf texts) terms codes

-- The texts tell codes and terms apart: no two are the same, and their codes stand below those of nodes. So a code stands for one term, and a term has one
-- code.
pub record AreTelling (texts : List (List ℕ)) : Type 0 where
  pub distinct : AllPairs ◌≢◌ texts
  pub few : length texts ≤ FIRST_NODE

-- The rows of codes of the relation of a number; a number past the relations has none.
abbrev pub rows_in : List CodedRows → ℕ → List (List ℕ)
rows_in relations number = held_by (map (λ (relation : CodedRows). relation.rows) relations) number

-- The rows of codes stand for the facts: each fact has its row in its relation, and each row is that of a fact.
pub record StandFor (coded : Coded) (facts : List (Fact Term)) : Type 0 where
  pub has : (fact : Fact Term) → Contains facts fact
      → (codes : List ℕ) × AreCodesOf coded.texts fact.terms codes × Contains (rows_in coded.relations fact.relation) codes
  pub only : (relation : ℕ) (codes : List ℕ) → Contains (rows_in coded.relations relation) codes
      → (fact : Fact Term) × Contains facts fact × (fact.relation ≡ relation) × AreCodesOf coded.texts fact.terms codes

-- Of the facts those over the relation of a number, in order.
abbrev pub facts_over : ℕ → List (Fact Term) → List (Fact Term)
facts_over relation facts = filter (λ (fact : Fact Term). fact.relation == relation) facts

-- The rows of codes stand for the facts in order: those of each relation are the rows of the facts over it, one each.
abbrev pub StandInOrder : Coded → List (Fact Term) → Type 0
StandInOrder coded facts =
    (relation : ℕ)
    → AllZip (λ (fact : Fact Term) (codes : List ℕ). AreCodesOf coded.texts fact.terms codes) (facts_over relation facts) (rows_in coded.relations relation)

-- Rows of codes that stand for facts in order stand for them.
abbrev pub OrderedStand : Type 0
OrderedStand = (coded : Coded) (facts : List (Fact Term)) → StandInOrder coded facts → StandFor coded facts

-- How many columns each relation has.
abbrev pub arities_of : Coded → List ℕ
arities_of coded = map (λ (relation : CodedRows). relation.arity) coded.relations

-- The fact is over one of the relations, with as many terms as that has columns.
abbrev pub HasPlace : Coded → Fact Term → Type 0
HasPlace coded fact = slice_get (arities_of coded) fact.relation ≡ Some (length fact.terms)
