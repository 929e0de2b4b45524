-- The code and the line of a status.
use Rattle.std.specs.Prelude.{ℕ, ◌+◌, ◌-◌, List, [], ◌∷◌, ◌++◌, take, length, Option, Some, None, codes}
use Rattle.std.specs.Fmt.{decimal}
use Rattle.std.specs.List.{flat_map}
use Rattle.csv.specs.Writing.{default_writer, row_text}
use Rattle.esto_status.specs.declared.fault.CatalogueKind.{CatalogueKind}
use Rattle.esto_status.specs.declared.fault.CatalogueKind.TheVariants as catalogue
use Rattle.esto_status.specs.declared.fault.Section.{Section}
use Rattle.esto_status.specs.declared.fault.Section.TheVariants.{Top, Dataset, Fragment, Constraint}
use Rattle.esto_chase_laws.specs.declared.clash.Clash.{Clash}
use Rattle.esto_chase_laws.specs.declared.clash.Clash.TheVariants.{Equal, Denied}
use Rattle.esto_ports.specs.declared.difference.Difference.{Difference}
use Rattle.esto_ports.specs.declared.difference.Difference.TheVariants.{Rule, Missing, Extra}
use Rattle.esto_views.specs.Printing.{constant_text}
use Rattle.esto_ports.specs.declared.file_fault.FileKind.{FileKind}
use Rattle.esto_ports.specs.declared.file_fault.FileKind.TheVariants as file
use Rattle.esto_text.specs.declared.fault.TextFault.{TextFault}
use Rattle.esto_text.specs.declared.fault.TextKind.{TextKind}
use Rattle.esto_text.specs.declared.fault.TextKind.TheVariants.{Utf8, Syntax, Unknown, Arity, TooLarge, SameVariable, Unsafe, HeadLength}
use Rattle.esto_status.specs.declared.status.Status.{Status}
use Rattle.esto_status.specs.declared.status.Status.TheVariants.{Done, OutOfMemory, Usage, ReadFault, WriteFault, TooLong, BadCatalogue, BadQuery, NotAcyclic}
use Rattle.esto_status.specs.declared.status.Status.TheVariants.{BadFragment, Unsatisfiable, NoRewriting, NoSuchNumber, NoData, BadDataset, NodeInRow, Differs}
use Rattle.esto_status.specs.declared.status.Status.TheVariants.{KeyText, NoSuchFragment, Rejected, HeadLengths}

-- A cell as the record of this one cell has it, without the line feed that ends the record. The empty cell is two quotes.
abbrev pub cell_of : List ℕ → List ℕ
cell_of cell = take (length (row_text default_writer (cell ∷ [])) - 1) (row_text default_writer (cell ∷ []))

-- The status of the process.
abbrev pub code_of : Status → ℕ
code_of Done = 0
code_of OutOfMemory = 1
code_of Usage = 2
code_of (ReadFault name) = 3
code_of WriteFault = 4
code_of (TooLong name limit) = 5
code_of (BadCatalogue fault) = 6
code_of (BadQuery fault) = 7
code_of (NotAcyclic cycle) = 8
code_of (BadFragment name fault) = 9
code_of (Unsatisfiable clash) = 10
code_of NoRewriting = 11
code_of (NoSuchNumber number listed) = 12
code_of (NoData name) = 13
code_of (BadDataset name fault) = 14
code_of (NodeInRow column) = 15
code_of (Differs difference) = 16
code_of (KeyText cell) = 17
code_of (NoSuchFragment name) = 19
code_of (Rejected number) = 20
code_of (HeadLengths one other) = 21

-- The word that names a kind of fault.
abbrev pub kind_word : TextKind → List ℕ
kind_word Utf8 = codes "Utf8"
kind_word Syntax = codes "Syntax"
kind_word Unknown = codes "Unknown"
kind_word Arity = codes "Arity"
kind_word TooLarge = codes "TooLarge"
kind_word SameVariable = codes "SameVariable"
kind_word Unsafe = codes "Unsafe"
kind_word HeadLength = codes "HeadLength"

-- The word that names a kind of a catalogue's fault.
abbrev pub catalogue_word : CatalogueKind → List ℕ
catalogue_word catalogue.Toml = codes "Toml"
catalogue_word catalogue.UnknownKey = codes "UnknownKey"
catalogue_word catalogue.Version = codes "Version"
catalogue_word catalogue.WrongType = codes "WrongType"
catalogue_word catalogue.TooMany = codes "TooMany"
catalogue_word catalogue.Missing = codes "Missing"
catalogue_word catalogue.Unfit = codes "Unfit"
catalogue_word catalogue.BadName = codes "BadName"
catalogue_word catalogue.SameName = codes "SameName"
catalogue_word catalogue.BadModel = codes "BadModel"
catalogue_word catalogue.BadStore = codes "BadStore"
catalogue_word catalogue.BadColumns = codes "BadColumns"
catalogue_word catalogue.BadLayout = codes "BadLayout"
catalogue_word catalogue.BadText = codes "BadText"
catalogue_word catalogue.BadPattern = codes "BadPattern"
catalogue_word catalogue.BadAccess = codes "BadAccess"
catalogue_word catalogue.BadWeight = codes "BadWeight"

-- The word that names a section.
abbrev pub section_word : Section → List ℕ
section_word Top = codes "top"
section_word Dataset = codes "dataset"
section_word Fragment = codes "fragment"
section_word Constraint = codes "constraint"

-- The word that names a kind of a file's fault.
abbrev pub file_word : FileKind → List ℕ
file_word file.NoHeader = codes "NoHeader"
file_word file.Header = codes "Header"
file_word file.Length = codes "Length"
file_word file.NotUtf8 = codes "NotUtf8"
file_word file.BadJson = codes "BadJson"
file_word file.NotArray = codes "NotArray"
file_word file.Cells = codes "Cells"

-- After a catalogue's fault, that of a text, where there is one.
abbrev pub within_text : Option TextFault → List ℕ
within_text None = []
within_text (Some fault) = codes " " ++ (decimal fault.offset ++ (codes " " ++ kind_word fault.kind))

-- The names along a cycle: the first, then an arrow and a name for each edge, back to the first.
abbrev pub way_text : List (List ℕ) → List ℕ
way_text [] = []
way_text (first ∷ rest) = first ++ flat_map (λ name. codes " -> " ++ name) (rest ++ first ∷ [])

-- What clashes: two constants, the lesser first, or a denial by its number among all rules, counted from 1.
abbrev pub clash_text : Clash → List ℕ
clash_text (Equal one other) = constant_text one ++ (codes " " ++ constant_text other)
clash_text (Denied rule) = codes "constraint " ++ decimal (rule + 1)

-- A difference: the number of a constraint, counted from 1 over all rules, or the name of a fragment and whether a row is missing or extra; and a CSV record,
-- which ends the line.
abbrev pub difference_text : Difference → List ℕ
difference_text (Rule number cells) = codes "constraint " ++ (decimal number ++ codes " ") ++ row_text default_writer cells
difference_text (Missing name row) = codes "fragment " ++ cell_of name ++ codes " missing " ++ row_text default_writer row
difference_text (Extra name row) = codes "fragment " ++ cell_of name ++ codes " extra " ++ row_text default_writer row

-- The line that names a status, of which Done and OutOfMemory have none.
abbrev pub line_of : Status → List ℕ
line_of Done = []
line_of OutOfMemory = []
line_of Usage = codes "Usage\n"
line_of (ReadFault name) = codes "ReadFault " ++ cell_of name ++ codes "\n"
line_of WriteFault = codes "WriteFault\n"
line_of (TooLong name limit) = codes "TooLong " ++ cell_of name ++ (codes " " ++ (decimal limit ++ codes "\n"))
line_of (BadCatalogue fault) =
    codes "BadCatalogue " ++ (catalogue_word fault.kind ++ (codes " " ++ (section_word fault.section ++ (codes " " ++ (decimal fault.number ++ codes " ")))))
    ++ cell_of fault.key ++ within_text fault.text ++ codes "\n"
line_of (BadQuery fault) = codes "BadQuery " ++ (decimal fault.offset ++ (codes " " ++ (kind_word fault.kind ++ codes "\n")))
line_of (NotAcyclic cycle) = codes "NotAcyclic " ++ way_text cycle.names ++ codes "\n"
line_of (BadFragment name fault) =
    codes "BadFragment " ++ (cell_of name ++ (codes " " ++ (file_word fault.kind ++ (codes " " ++ (decimal fault.place ++ codes "\n")))))
line_of (Unsatisfiable clash) = codes "Unsatisfiable " ++ clash_text clash ++ codes "\n"
line_of NoRewriting = codes "NoRewriting\n"
line_of (NoSuchNumber number listed) = codes "NoSuchNumber " ++ (decimal number ++ (codes " " ++ (decimal listed ++ codes "\n")))
line_of (NoData name) = codes "NoData " ++ cell_of name ++ codes "\n"
line_of (BadDataset name fault) =
    codes "BadDataset " ++ (cell_of name ++ (codes " " ++ (file_word fault.kind ++ (codes " " ++ (decimal fault.place ++ codes "\n")))))
line_of (NodeInRow column) = codes "NodeInRow " ++ (decimal column ++ codes "\n")
line_of (Differs difference) = codes "Differs " ++ difference_text difference
line_of (KeyText cell) = codes "KeyText " ++ cell_of cell ++ codes "\n"
line_of (NoSuchFragment name) = codes "NoSuchFragment " ++ cell_of name ++ codes "\n"
line_of (Rejected number) = codes "Rejected " ++ (decimal number ++ codes "\n")
line_of (HeadLengths one other) = codes "HeadLengths " ++ (decimal one ++ (codes " " ++ (decimal other ++ codes "\n")))

-- The status has numbers alone.
abbrev pub IsCounted : Status → Type 0
IsCounted (NoSuchNumber number listed) = Unit {0}
IsCounted (NodeInRow column) = Unit {0}
IsCounted (Rejected number) = Unit {0}
IsCounted (HeadLengths one other) = Unit {0}
IsCounted _ = ⊥

-- The status names a file, a dataset, a fragment or a cell of its row.
abbrev pub IsOfFile : Status → Type 0
IsOfFile (ReadFault name) = Unit {0}
IsOfFile (TooLong name limit) = Unit {0}
IsOfFile (BadFragment name fault) = Unit {0}
IsOfFile (NoData name) = Unit {0}
IsOfFile (BadDataset name fault) = Unit {0}
IsOfFile (KeyText cell) = Unit {0}
IsOfFile (NoSuchFragment name) = Unit {0}
IsOfFile _ = ⊥
