-- The document that a layout writes for a row.
use Rattle.std.specs.Prelude.{ℕ, Bool, true, false, if◌then◌else◌, List, [], ◌∷◌, flat_map}
use Rattle.serde_json.specs.Data.{Data, string, array, object, no_items, item, Members, no_members, member, put}
use Rattle.serde_json.specs.View.{items_of}
use Rattle.serde_json.specs.Written.{compact_text}
use Rattle.esto_ports.specs.Lines.{with_feed}
use Rattle.esto_docmodel.specs.Patterns.{Entries, done, holds, group}
use Rattle.esto_docmodel.specs.declared.pattern.Step.{Step}
use Rattle.esto_docmodel.specs.declared.pattern.Step.TheVariants.{Name, Item, Below}
use Rattle.esto_docs.specs.Rows.{Row, text_in}
use Rattle.esto_docmodel.specs.declared.file.Layout.{Layout}
use Rattle.esto_docmodel.specs.declared.file.Layout.TheVariants.{Array, Lines}

-- What the steps of a path write round a value: an object of one field, or an array of one item. No layout has `**`.
abbrev pub path_data : List Step → Data → Data
path_data [] d = d
path_data (Name k ∷ path) d = object (member k (path_data path d) no_members)
path_data (Item ∷ path) d = array (item (path_data path d) no_items)
path_data (Below ∷ path) d = path_data path d

-- Whether a path begins with a field.
abbrev pub begins_with_field : List Step → Bool
begins_with_field [] = false
begins_with_field (Name k ∷ path) = true
begins_with_field (Item ∷ path) = false
begins_with_field (Below ∷ path) = false

-- The name of the field with which a path begins; no bytes where it begins with none.
abbrev pub first_name : List Step → List ℕ
first_name [] = []
first_name (Name k ∷ path) = k
first_name (Item ∷ path) = []
first_name (Below ∷ path) = []

-- The steps of a path after the first.
abbrev pub later_steps : List Step → List Step
later_steps [] = []
later_steps (step ∷ path) = path

-- A first entry and the fields of those after it: they are fields of one object, or the first is the item of an array.
abbrev pub begun : List Step → Data → Members → Data
begun path first rest = if begins_with_field path then object (put (first_name path) first rest) else array (item first no_items)

abbrev mutual
  -- The document of a row: a column is the cell as a string, and what stands at the end of a path is written with the steps of the path round it.
  pub document : Entries → Row → Data
  document done row = object no_members
  document (holds path term rest) row = begun path (path_data (later_steps path) (string (text_in row term))) (members rest row)
  document (group path inner rest) row = begun path (path_data (later_steps path) (document inner row)) (members rest row)

  -- The fields of an object that the entries write, one for each of them.
  pub members : Entries → Row → Members
  members done row = no_members
  members (holds path term rest) row = put (first_name path) (path_data (later_steps path) (string (text_in row term))) (members rest row)
  members (group path inner rest) row = put (first_name path) (path_data (later_steps path) (document inner row)) (members rest row)

-- ---- files

-- The line of a document.
abbrev pub document_line : Data → List ℕ
document_line d = with_feed (compact_text d)

-- The text of a file with these documents: each on a line, or all in one array with a line feed after it.
abbrev pub documents_text : Layout → List Data → List ℕ
documents_text Array ds = with_feed (compact_text (array (items_of ds)))
documents_text Lines ds = flat_map document_line ds

-- ---- for private clauses

-- What the first entry writes after its first step.
abbrev pub first_data : Entries → Row → Data
first_data done row = object no_members
first_data (holds path term rest) row = path_data (later_steps path) (string (text_in row term))
first_data (group path inner rest) row = path_data (later_steps path) (document inner row)

-- What one step writes round a value.
abbrev pub step_data : Step → Data → Data
step_data step d = path_data (step ∷ []) d
