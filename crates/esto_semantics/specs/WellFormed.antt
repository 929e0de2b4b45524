-- Well-formed facts: over the relations of a schema, of the right length, with texts that are UTF-8.
use Rattle.std.specs.Prelude.{◌≡◌, ℕ, List, Some, length, slice_get, Contains, IsUtf8}
use Rattle.esto_term.specs.declared.term.Term.{Term}
use Rattle.esto_term.specs.declared.term.Term.TheVariants.{Const}
use Rattle.esto_semantics.specs.Facts.{Database, Mentions}
use Rattle.esto_semantics.specs.Queries.{ConjunctiveQuery}
use Rattle.esto_semantics.specs.Rules.{Rule, tuple, equality, denial}
use Rattle.esto_semantics.specs.declared.fact.Fact.{Fact}
use Rattle.esto_semantics.specs.declared.fact.Value.TheVariants.{Text}

-- Each fact is over a relation of the schema, which is the list of the relations' numbers of columns, and has as many terms as the relation has columns.
abbrev pub AreOver : {V : Type 0} → List ℕ → List (Fact V) → Type 0
AreOver {V} schema facts = (fact : Fact V) → Contains facts fact → slice_get schema fact.relation ≡ Some (length fact.terms)

-- Each constant of the atoms is UTF-8.
abbrev pub HaveUtf8 : List (Fact Term) → Type 0
HaveUtf8 atoms = (text : List ℕ) → Mentions atoms (Const text) → IsUtf8 text

-- The database is over the schema, and each text in it is UTF-8.
pub record IsWellFormed (schema : List ℕ) (database : Database) : Type 0 where
  pub over : AreOver schema database
  pub texts : (text : List ℕ) → Mentions database (Text text) → IsUtf8 text

-- The query is over the schema, and its constants are UTF-8.
pub record IsQueryOver (schema : List ℕ) (query : ConjunctiveQuery) : Type 0 where
  pub over : AreOver schema query.body
  pub body_texts : HaveUtf8 query.body
  pub head_texts : (text : List ℕ) → Contains query.head (Const text) → IsUtf8 text

-- The rule is over the schema, and its constants are UTF-8.
abbrev pub IsRuleOver : List ℕ → Rule → Type 0
IsRuleOver schema (tuple body head) = AreOver schema body × AreOver schema head × HaveUtf8 body × HaveUtf8 head
IsRuleOver schema (equality body left right) =
    AreOver schema body × HaveUtf8 body × ((text : List ℕ) → left ≡ Const text → IsUtf8 text) × ((text : List ℕ) → right ≡ Const text → IsUtf8 text)
IsRuleOver schema (denial body) = AreOver schema body × HaveUtf8 body
