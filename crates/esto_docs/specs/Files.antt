-- The documents of a JSON file, or its first fault.
use Rattle.std.specs.Prelude.{◌==◌, ◌||◌, ◌+◌, ℕ, Bool, false, if◌then◌else◌, List, [], ◌∷◌, flat_map, Option, Some, None, is_none}
use Rattle.std.specs.List.{list_all}
use Rattle.std.specs.Str.{is_utf8}
use Rattle.serde_json.specs.Data.{Data}
use Rattle.serde_json.specs.Data as json
use Rattle.serde_json.specs.Find.{as_array}
use Rattle.serde_json.specs.Read.{read}
use Rattle.esto_docmodel.specs.declared.tree.Tree.{Tree}
use Rattle.esto_ports.specs.declared.file_fault.FileFault.{FileFault}
use Rattle.esto_ports.specs.declared.file_fault.FileKind.TheVariants.{BadJson, NotArray}
use Rattle.esto_ports.specs.FileFaults.{fault_at}
use Rattle.esto_ports.specs.Lines.{lines_of}
use Rattle.esto_docs.specs.Trees.{tree_of, trees_of}
use Rattle.esto_docmodel.specs.declared.file.Layout.{Layout}
use Rattle.esto_docmodel.specs.declared.file.Layout.TheVariants.{Array, Lines}

-- The JSON value that bytes are, if they are one.
unfoldable pub json_of : List ℕ → Option Data
json_of bytes = if is_utf8 bytes then read bytes else None

-- ---- layout Lines

-- A line of spaces, tabs and carriage returns alone.
abbrev pub is_blank : List ℕ → Bool
is_blank line = list_all (λ b. (b == 32) || (b == 9) || (b == 13)) line

-- A line that is neither blank nor a JSON value.
abbrev pub is_bad : List ℕ → Bool
is_bad line = if is_blank line then false else is_none (json_of line)

-- The tree of a value, if there is one.
abbrev pub tree_of_value : Option Data → List Tree
tree_of_value None = []
tree_of_value (Some value) = tree_of value ∷ []

-- The documents of a line: none where it is blank, and else the one that it is.
abbrev pub trees_of_line : List ℕ → List Tree
trees_of_line line = if is_blank line then [] else tree_of_value (json_of line)

-- The documents of lines, in order.
abbrev pub trees_of_lines : List (List ℕ) → List Tree
trees_of_lines lines = flat_map trees_of_line lines

-- The first bad line of lines that are counted from the number.
unfoldable pub lines_fault : ℕ → List (List ℕ) → Option FileFault
lines_fault number [] = None
lines_fault number (line ∷ rest) = if is_bad line then Some (fault_at BadJson number) else lines_fault (number + 1) rest

-- ---- layout Array

-- What is wrong with a value that is to be an array.
abbrev pub fault_unless_array : Option json.Items → Option FileFault
fault_unless_array None = Some (fault_at NotArray 0)
fault_unless_array (Some items) = None

-- What is wrong with a file that is to be an array: it is no JSON value, or another value.
abbrev pub array_fault : Option Data → Option FileFault
array_fault None = Some (fault_at BadJson 0)
array_fault (Some value) = fault_unless_array (as_array value)

-- The items of an array, in order.
abbrev pub trees_of_items : Option json.Items → List Tree
trees_of_items None = []
trees_of_items (Some items) = trees_of items

-- The documents of a file that is an array, in order; none where it is none.
abbrev pub trees_of_array : Option Data → List Tree
trees_of_array None = []
trees_of_array (Some value) = trees_of_items (as_array value)

-- ---- both

-- The documents of a file in a layout, in order.
abbrev pub file_trees : Layout → List ℕ → List Tree
file_trees Array bytes = trees_of_array (json_of bytes)
file_trees Lines bytes = trees_of_lines (lines_of bytes)

-- The first fault of a file in a layout.
abbrev pub trees_fault : Layout → List ℕ → Option FileFault
trees_fault Array bytes = array_fault (json_of bytes)
trees_fault Lines bytes = lines_fault 1 (lines_of bytes)
