-- Which command lines have an outcome.
use Rattle.std.specs.Prelude.{◌≡◌, ◌↔◌, ◌⊎◌, ℕ, List, Some, Contains}
use Rattle.std.specs.FinMap.{get}
use Rattle.esto_course.specs.Course.{Names}
use Rattle.esto_course.specs.Course.Point.{missing}
use Rattle.esto_ports.specs.Files.{Files}
use Rattle.esto_status.specs.Asked.{Fetches}
use Rattle.esto_status.specs.declared.status.Status.{Status}
use Rattle.esto_top.specs.Call.{Call, HasPut, WantsMemory, WhereTold}
use Rattle.esto_top.specs.Grammar.{course_of}
use Rattle.esto_top.specs.Outcome.{Outcome}

-- The words over the files have an outcome.
abbrev pub HasOutcome : List (List ℕ) → Files → Type 0
HasOutcome words files = (said : Status) × (text : List ℕ) × Outcome words files said text

-- The words ask for a file that is not among the files.
abbrev pub LacksFile : List (List ℕ) → Files → Type 0
LacksFile words files = (names : Names) × (course_of words (Some files)).asks names missing

-- Each of the names is of one of the files.
abbrev pub AreAmong : Files → Names → Type 0
AreAmong files names = (name : List ℕ) → Contains names name → (file : List ℕ) × (get files name ≡ Some file)

-- Each file that the words fetch is there.
abbrev pub HaveFetched : List (List ℕ) → Files → Type 0
HaveFetched words files = (names : Names) → Fetches (course_of words (Some files)) names → AreAmong files names

-- ---- laws

-- Whatever the words are, they have an outcome over whatever files, or they ask for a file that is not there.
abbrev pub OutcomesExist : Type 0
OutcomesExist = (words : List (List ℕ)) (files : Files) → HasOutcome words files ⊎ LacksFile words files

-- Whatever the words are, they fetch some sequence of names over whatever files.
abbrev pub FetchesExist : Type 0
FetchesExist = (words : List (List ℕ)) (files : Files) → (names : Names) × Fetches (course_of words (Some files)) names

-- Whatever the words are, where they have an outcome over the files, they fetch a sequence of names, each of which is of one of the files.
abbrev pub OutcomesHaveFiles : Type 0
OutcomesHaveFiles =
    (words : List (List ℕ)) (files : Files) → HasOutcome words files
    → (names : Names) × Fetches (course_of words (Some files)) names × AreAmong files names

-- So they have none where they ask for a file that is not there.
abbrev pub OutcomesLackNone : Type 0
OutcomesLackNone = (words : List (List ℕ)) (files : Files) → HasOutcome words files → LacksFile words files → ⊥

-- Whatever the words are, they have an outcome exactly where each file that they fetch is there.
abbrev pub OutcomesAreWhereFilesAre : Type 0
OutcomesAreWhereFilesAre = (words : List (List ℕ)) (files : Files) → HasOutcome words files ↔ HaveFetched words files

-- ---- what the top call says

-- There is an outcome of the words and the files, and the answer has its status, and its text was put; or memory was refused, and nothing was put.
abbrev pub IsTheOutcome : Files → Call → Type 0
IsTheOutcome files call =
    (said : Status) × (text : List ℕ) × Outcome call.words files said text × (((call.status ≡ said) × HasPut call text) ⊎ WantsMemory call)

-- Where the shelf tells its files, each that the words fetch is there, and neither count rose, there is an outcome, and it is what was answered, or memory was
-- refused.
abbrev pub AnsweredWhereTold : Call → Type 0
AnsweredWhereTold call = WhereTold call (λ files. HaveFetched call.words files → IsTheOutcome files call)
