-- Rows of values as rows of texts. A set of rows of values is given by a predicate.
use Rattle.std.specs.Prelude.{◌≡◌, ◌↔◌, ℕ, suc, ◌<◌, ◌≤◌, List, Some, map, slice_get, Contains, Result, Ok, Err}
use Rattle.esto_rows.specs.Lent.{AreRising}
use Rattle.esto_semantics.specs.Facts.{Database}
use Rattle.esto_semantics.specs.Queries.{ConjunctiveQuery, IsAnswer}
use Rattle.esto_semantics.specs.declared.fact.Value.{Value}
use Rattle.esto_semantics.specs.declared.fact.Value.TheVariants.{Text, Node}
use Rattle.esto_stores.specs.Rows.{Row}
use Rattle.esto_fill.specs.declared.rows.AnswerError.{AnswerError}
use Rattle.esto_fill.specs.declared.rows.AnswerError.TheVariants.{NodeInRow, OutOfMemory}

-- The row of values is a row of texts.
abbrev pub IsTextRow : List Value → Type 0
IsTextRow values = (row : Row) × (values ≡ map Text row)

-- Each of the rows is a row of texts.
abbrev pub HaveTextsOnly : (List Value → Type 0) → Type 0
HaveTextsOnly Rows = (values : List Value) → Rows values → IsTextRow values

-- The rows of values are exactly these rows of texts.
abbrev pub AreExactly : (List Value → Type 0) → List Row → Type 0
AreExactly Rows rows = (values : List Value) → Rows values ↔ ((row : Row) × Contains rows row × (values ≡ map Text row))

-- They are exactly these rows of texts, each once, in rising order, cell by cell by bytes.
pub record AreTextsOf (Rows : List Value → Type 0) (rows : List Row) : Type 0 where
  pub exact : AreExactly Rows rows
  pub rising : AreRising rows

-- The row holds an unnamed value in that column, counted from 1.
abbrev pub HasNodeIn : ℕ → List Value → Type 0
HasNodeIn column values = (place node : ℕ) × (column ≡ suc place) × (slice_get values place ≡ Some (Node node))

-- One of the rows holds an unnamed value in that column, and none holds one in a lesser.
pub record IsFirstNodeColumn (Rows : List Value → Type 0) (column : ℕ) : Type 0 where
  pub values : List Value
  pub there : Rows values
  pub node : HasNodeIn column values
  pub least : (other : List Value) (lesser : ℕ) → Rows other → HasNodeIn lesser other → column ≤ lesser

-- The answer is the list of the rows, which are of texts alone; or one of them holds an unnamed value, and this is the least column that has one; or memory is
-- wanting.
abbrev pub GivesTexts : (List Value → Type 0) → Result (List Row) AnswerError → Type 0
GivesTexts Rows (Ok rows) = AreTextsOf Rows rows
GivesTexts Rows (Err (NodeInRow column)) = IsFirstNodeColumn Rows column
GivesTexts Rows (Err OutOfMemory) = Unit {0}

-- The rows are of texts alone; or one of them holds an unnamed value, and this is the least column that has one; or memory is wanting.
abbrev pub JudgesRows : (List Value → Type 0) → Result (Unit {0}) AnswerError → Type 0
JudgesRows Rows (Ok _) = HaveTextsOnly Rows
JudgesRows Rows (Err (NodeInRow column)) = IsFirstNodeColumn Rows column
JudgesRows Rows (Err OutOfMemory) = Unit {0}

-- Each row of each of the views is a row of texts.
abbrev pub AreTextViews : List ConjunctiveQuery → Database → Type 0
AreTextViews views database = (view : ConjunctiveQuery) → Contains views view → HaveTextsOnly (IsAnswer view database)

-- Of the first view of which a row holds an unnamed value, it is the least column that has one.
pub record IsFirstNodeView (views : List ConjunctiveQuery) (database : Database) (column : ℕ) : Type 0 where
  pub number : ℕ
  pub view : ConjunctiveQuery
  pub there : slice_get views number ≡ Some view
  pub first : IsFirstNodeColumn (IsAnswer view database) column
  pub before : (earlier : ℕ) (other : ConjunctiveQuery) → earlier < number → slice_get views earlier ≡ Some other → HaveTextsOnly (IsAnswer other database)

-- The rows of all views are of texts alone; or of the first view of which one is not, this is the least column; or memory is wanting.
abbrev pub JudgesViews : List ConjunctiveQuery → Database → Result (Unit {0}) AnswerError → Type 0
JudgesViews views database (Ok _) = AreTextViews views database
JudgesViews views database (Err (NodeInRow column)) = IsFirstNodeView views database column
JudgesViews views database (Err OutOfMemory) = Unit {0}
