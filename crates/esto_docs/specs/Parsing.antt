-- What the steps of reading a file give.
use Rattle.std.specs.Prelude.{◌≡◌, ◌++◌, ℕ, true, false, List, Vec, Some, None, Result, Ok, Err}
use Rattle.serde_json.specs.Data.{Data, array}
use Rattle.serde_json.specs.View.{view, items_view}
use Rattle.serde_json.specs.declared.value.Value.{Value}
use Rattle.esto_docmodel.specs.declared.tree.Tree.{Tree}
use Rattle.esto_docs.specs.Trees.{tree_of}
use Rattle.esto_docs.specs.Files.{json_of, is_bad, trees_of_line, array_fault}
use Rattle.esto_ports.specs.declared.file_fault.FileError.{FileError}
use Rattle.esto_ports.specs.declared.file_fault.FileError.TheVariants.{Fault}
use Rattle.esto_ports.specs.declared.file_fault.FileError.TheVariants as file
use Rattle.esto_docs.specs.declared.parse.ParseError.{ParseError}
use Rattle.esto_docs.specs.declared.parse.ParseError.TheVariants.{BadJson, OutOfMemory}

-- The bytes are that JSON value, or they are none; or memory is wanting.
abbrev pub Parses : List ℕ → Result Value ParseError → Type 0
Parses bytes (Ok value) = json_of bytes ≡ Some (view value)
Parses bytes (Err BadJson) = json_of bytes ≡ None
Parses bytes (Err OutOfMemory) = Unit {0}

-- The same of the value's tree.
abbrev pub ParsesTree : List ℕ → Result Tree ParseError → Type 0
ParsesTree bytes (Ok tree) = (value : Data) × (json_of bytes ≡ Some value) × (tree ≡ tree_of value)
ParsesTree bytes (Err BadJson) = json_of bytes ≡ None
ParsesTree bytes (Err OutOfMemory) = Unit {0}

-- The bytes are an array of these items, or the fault is that of bytes that are none; or memory is wanting.
abbrev pub ParsesArray : {Z : Type 0} → List ℕ → Result (Vec Value Z) FileError → Type 0
ParsesArray bytes (Ok items) = json_of bytes ≡ Some (array (items_view items.items))
ParsesArray bytes (Err (Fault found)) = array_fault (json_of bytes) ≡ Some found
ParsesArray bytes (Err file.OutOfMemory) = Unit {0}

-- The documents of the line are put at the end, or it is bad; or memory is wanting.
abbrev pub PutsLine : List ℕ → List Tree → List Tree → Result (Unit {0}) ParseError → Type 0
PutsLine line old new (Ok _) = (is_bad line ≡ false) × (new ≡ old ++ trees_of_line line)
PutsLine line old new (Err BadJson) = is_bad line ≡ true
PutsLine line old new (Err OutOfMemory) = Unit {0}
