-- The facts of the documents of a JSON file.
use Rattle.std.specs.Prelude.{◌≡◌, ◌+◌, ℕ, suc, false, true, List, Option, Some, None, Result, Ok, Err}
use Rattle.esto_term.specs.declared.term.Term.{Term}
use Rattle.esto_semantics.specs.declared.fact.Fact.{Fact}
use Rattle.esto_docmodel.specs.Encodings.{facts_from, kept, kept_of, size}
use Rattle.esto_docmodel.specs.Forests.{Forest, Node}
use Rattle.esto_docmodel.specs.Gaining.{Gains}
use Rattle.esto_docmodel.specs.Putting.{PutsDocuments, node_facts}
use Rattle.esto_docmodel.specs.Rising.{AreRising, IsRising}
use Rattle.esto_docmodel.specs.Shapes.{documents}
use Rattle.esto_docmodel.specs.declared.encode.Encoded.{Encoded}
use Rattle.esto_docmodel.specs.declared.kept.Kept.{Kept}
use Rattle.esto_docmodel.specs.declared.tree.Tree.{Tree}
use Rattle.esto_ports.specs.declared.file_fault.FileFault.{FileFault}
use Rattle.esto_ports.specs.declared.file_fault.FileError.{FileError}
use Rattle.esto_ports.specs.declared.file_fault.FileError.TheVariants.{Fault, OutOfMemory}
use Rattle.esto_docs.specs.Files.{is_bad, trees_of_line}
use Rattle.esto_docs.specs.declared.parse.ParseError.{ParseError}
use Rattle.esto_docs.specs.declared.parse.ParseError.TheVariants as parse

-- They are the facts of these documents, as far as they are kept, whose nodes are numbered from `first` on, and the first number that is no node's. The
-- names of the documents' fields rise.
pub record AreEncoded (relations : Kept) (first : ℕ) (trees : List Tree) (encoded : Encoded) : Type 0 where
  pub facts : encoded.facts ≡ kept_of relations first (documents trees)
  pub next : encoded.next ≡ first + size (documents trees)
  pub rising : AreRising trees

-- There is no fault, and these are the facts of the documents; or it is the first fault, and there is one; or memory is wanting.
abbrev pub GivesEncoded : Kept → ℕ → List Tree → Option FileFault → Result Encoded FileError → Type 0
GivesEncoded relations first trees fault (Ok encoded) = (fault ≡ None) × AreEncoded relations first trees encoded
GivesEncoded relations first trees fault (Err (Fault found)) = fault ≡ Some found
GivesEncoded relations first trees fault (Err OutOfMemory) = Unit {0}

-- There is no fault, and the sink has gained the facts of the documents, and the answer is the first number that is no node's; or it is the first fault, and
-- there is one; or memory is wanting.
abbrev pub GivesNext : {S : Type 0} → (S → List (Fact Term) → Type 0) → (S → Option (List ℕ)) → Kept → ℕ → List Tree → Option FileFault → S → S
    → Result ℕ FileError → Type 0
GivesNext Holds arities relations first trees fault old new (Ok next) = (fault ≡ None) × PutsDocuments Holds arities relations trees first next old new
GivesNext Holds arities relations first trees fault old new (Err (Fault found)) = fault ≡ Some found
GivesNext Holds arities relations first trees fault old new (Err OutOfMemory) = Unit {0}

-- ---- for private clauses

-- The facts of the line's documents are put, or the line is bad; or memory is wanting.
abbrev pub EncodesLine : {S : Type 0} → (S → List (Fact Term) → Type 0) → (S → Option (List ℕ)) → Kept → List ℕ → ℕ → S → S → Result ℕ ParseError → Type 0
EncodesLine Holds arities relations line first old new (Ok next) =
    (is_bad line ≡ false) × PutsDocuments Holds arities relations (trees_of_line line) first next old new
EncodesLine Holds arities relations line first old new (Err parse.BadJson) = is_bad line ≡ true
EncodesLine Holds arities relations line first old new (Err parse.OutOfMemory) = Unit {0}

-- The sink has gained the facts of this row, as far as they are kept. The row stands below these nodes, the innermost first; its nodes are numbered from
-- `first` on, and `later` is the first number that is no node's. Its names rise.
pub record PutsRow {S : Type 0} (Holds : S → List (Fact Term) → Type 0) (arities : S → Option (List ℕ)) (relations : Kept) (above : List ℕ) (first : ℕ)
    (row : Forest) (later : ℕ) (old new : S) : Type 0 where
  pub facts : Gains Holds arities (kept relations (facts_from above first row)) old new
  pub next : later ≡ first + size row
  pub rising : IsRising row

-- The same of the node of this number, below these nodes, and of all that stands inside it, but for how it is entered.
pub record PutsNode {S : Type 0} (Holds : S → List (Fact Term) → Type 0) (arities : S → Option (List ℕ)) (relations : Kept) (above : List ℕ) (number : ℕ)
    (node : Node) (later : ℕ) (old new : S) : Type 0 where
  pub facts : Gains Holds arities (kept relations (node_facts above number node)) old new
  pub next : later ≡ suc number + size node.inside
  pub rising : IsRising node.inside
