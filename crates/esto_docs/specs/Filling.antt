-- Rows that are filled cell by cell along a layout, for private clauses.
use Rattle.std.specs.Prelude.{◌≡◌, ◌≤◌, ◌<◌, ◌==◌, ◌+◌, ℕ, Bool, true, false, if◌then◌else◌, List, [], ◌∷◌, map, length, slice_index_or, Contains, Option, Some}
use Rattle.std.specs.Prelude.{None}
use Rattle.std.specs.Borrow.{Bor}
use Rattle.serde_json.specs.Data.{Num, unsigned, negative, float, Data, null, boolean, number, string, array, object}
use Rattle.serde_json.specs.View.{view}
use Rattle.serde_json.specs.declared.value.Value.{Value}
use Rattle.esto_term.specs.declared.term.Term.{Term, out-Term}
use Rattle.esto_term.specs.declared.term.Term.TheOpen.{Term-F}
use Rattle.esto_docmodel.specs.Forests.{Node}
use Rattle.esto_docmodel.specs.Layouts.{AreLaidOut}
use Rattle.esto_docmodel.specs.Patterns.{Entries, done, holds, group, Matches}
use Rattle.esto_docmodel.specs.Shapes.{shape, entries_of}
use Rattle.esto_docmodel.specs.declared.pattern.Step.{Step}
use Rattle.esto_docs.specs.Rows.{Row, row_map, Gains}
use Rattle.esto_docs.specs.Trees.{tree_of}
use Rattle.esto_docs.specs.declared.filling.Todo.{Todo}
use Rattle.esto_docs.specs.declared.filling.Todo.TheOpen.{Todo-F}
use Rattle.esto_docs.specs.declared.filling.Todo.TheFolds.{fold-Todo}

-- ---- cells

-- The node of a value.
abbrev pub value_node : Data → Node
value_node d = shape (tree_of d)

-- Whether the number is a whole one of 64 bits.
abbrev pub is_whole : Num → Bool
is_whole (unsigned n) = true
is_whole (negative z) = true
is_whole (float x) = false

-- Whether a value holds a text.
abbrev pub holds_text : Data → Bool
holds_text null = false
holds_text (boolean b) = true
holds_text (number n) = is_whole n
holds_text (string s) = true
holds_text (array ds) = false
holds_text (object ms) = false

-- The text of a cell whose content is so: none where there is no content.
abbrev pub text_or_none : Option (List ℕ) → List ℕ
text_or_none None = []
text_or_none (Some text) = text

-- The text that a value holds; none where it holds no text.
abbrev pub value_text : Data → List ℕ
value_text d = text_or_none (value_node d).content

-- The row of the texts of values.
abbrev pub cells_of : List (Bor Value) → Row
cells_of values = map (λ value. value_text (view value.now)) values

-- ---- tasks

-- Entries of a layout that are left to match at a node.
abbrev pub Task : Type 0
Task = Entries × Node

-- How often the column stands in a term, by the term's kind.
abbrev pub times_by_kind : ℕ → Term-F Term → ℕ
times_by_kind column (Term-F.Const text) = 0
times_by_kind column (Term-F.Plain variable) = if variable == column then 1 else 0
times_by_kind column (Term-F.Made _ _ _) = 0

-- How often the column stands after `:` in the entries.
abbrev pub times : ℕ → Entries → ℕ
times column done = 0
times column (holds path term rest) = times_by_kind column (out-Term term) + times column rest
times column (group path inner rest) = times column inner + times column rest

-- How often the column stands after `:` in the tasks.
abbrev pub times_in : ℕ → List Task → ℕ
times_in column [] = 0
times_in column (task ∷ rest) = times column task.0 + times_in column rest

-- The test rules the entries out at the node: where it is false, they are matched there under no map.
abbrev pub RulesOut : Bool → Entries → Node → Type 0
RulesOut test entries node = test ≡ false → (m : Term → Term) → ¬ (Matches m entries node)

-- Each task's entries are matched in its node under the map.
abbrev pub AllMatched : (Term → Term) → List Task → Type 0
AllMatched m [] = Unit {0}
AllMatched m (task ∷ rest) = Matches m task.0 task.1 × AllMatched m rest

-- The entries of each task are laid out for so many columns.
abbrev pub AllLaidOut : ℕ → List Task → Type 0
AllLaidOut columns [] = Unit {0}
AllLaidOut columns (task ∷ rest) = AreLaidOut columns task.0 × AllLaidOut columns rest

-- The tasks are laid out, and no column stands in them twice.
pub record AreReady (columns : ℕ) (tasks : List Task) : Type 0 where
  pub laid_out : AllLaidOut columns tasks
  pub once : (column : ℕ) → column < columns → times_in column tasks ≤ 1

-- The two rows have the same cells in the columns that stand in no task.
abbrev pub AgreeOff : List Task → Row → Row → Type 0
AgreeOff tasks row other = (column : ℕ) → times_in column tasks ≡ 0 → slice_index_or row column [] ≡ slice_index_or other column []

-- The row has so many cells, those of the other in the columns that stand in no task, and under its map all tasks are matched.
pub record Completes (columns : ℕ) (tasks : List Task) (cells row : Row) : Type 0 where
  pub count : length row ≡ columns
  pub kept : AgreeOff tasks cells row
  pub matched : AllMatched (row_map row) tasks

-- The rows that complete the cells are put to those that were there, and the cells are changed in the columns of the tasks alone.
pub record Fills (columns : ℕ) (tasks : List Task) (cells new_cells : Row) (old new : List Row) : Type 0 where
  pub gains : Gains (Completes columns tasks cells) old new
  pub count : length new_cells ≡ length cells
  pub kept : AgreeOff tasks cells new_cells

-- The row completes the cells by the entries, matched in one of the nodes, and by the tasks.
abbrev pub CompletesSome : ℕ → Entries → List Node → List Task → Row → Row → Type 0
CompletesSome columns entries nodes tasks cells row = (node : Node) × Contains nodes node × Completes columns ((entries, node) ∷ tasks) cells row

-- The rows that so complete the cells are put to those that were there, and the cells are changed in the columns of the entries and the tasks alone.
pub record FillsSome (columns : ℕ) (entries : Entries) (nodes : List Node) (tasks : List Task) (cells new_cells : Row) (old new : List Row) : Type 0 where
  pub gains : Gains (CompletesSome columns entries nodes tasks cells) old new
  pub count : length new_cells ≡ length cells
  pub kept : (node : Node) → AgreeOff ((entries, node) ∷ tasks) cells new_cells

-- ---- the tasks of the program

-- What is left, as tasks, where what is left after its first entries is tasks already.
abbrev pub todo_step : Todo-F (List Task) → List Task
todo_step (Todo-F.Nothing) = []
todo_step (Todo-F.Entries entries value later) = (entries_of entries.now, value_node (view value.now)) ∷ later.now

-- The tasks of what is left to match, in order.
abbrev pub tasks_of : Todo → List Task
tasks_of = fold-Todo (List Task) todo_step

-- The first of the entries, with that path in place of its own.
abbrev pub with_path : List Step → Entries → Entries
with_path path done = done
with_path path (holds own term rest) = holds path term done
with_path path (group own inner rest) = group path inner done
