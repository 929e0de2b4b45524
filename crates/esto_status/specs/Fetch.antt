-- The fetch of a file, as a step.
use Rattle.std.specs.Prelude.{◌≡◌, ℕ, ◌<◌, ◌≤◌, List, length, Option, Some, None}
use Rattle.std.specs.FinMap.{get}
use Rattle.esto_ports.specs.Files.{Files, Holds}
use Rattle.esto_course.specs.Course.{Course, asking_once}
use Rattle.esto_ports.specs.Marks.{without_mark}
use Rattle.esto_status.specs.declared.status.Status.{Status}
use Rattle.esto_status.specs.declared.status.Status.TheVariants.{ReadFault, TooLong}

-- The fetch is at a fault, whose cause is asked for where the status is said; or the file is longer than the limit.
pub data FetchStops (files : Option Files) (name : List ℕ) (limit : ℕ) (status : Status) : Type 0 where
  fails : status ≡ ReadFault name → FetchStops files name limit status
  is_longer : (file : List ℕ) → Holds files name file → limit < length file → status ≡ TooLong name limit → FetchStops files name limit status

-- There is no file of that name, where they are told.
abbrev pub Lacks : Option Files → List ℕ → Type 0
Lacks None name = ⊥
Lacks (Some files) name = get files name ≡ None

-- It asks for the name, and goes on with the file's bytes after one leading byte-order mark. The limit counts the file as it is.
unfoldable pub fetches : Option Files → List ℕ → ℕ → Course Status (List ℕ)
fetches files name limit =
    asking_once name (λ bytes. (file : List ℕ) × Holds files name file × (length file ≤ limit) × (bytes ≡ without_mark file)) (FetchStops files name limit)
    (Lacks files name)

-- The file of that name has at most so many bytes, and these after one leading mark.
abbrev pub HasWithin : Files → List ℕ → ℕ → List ℕ → Type 0
HasWithin files name limit bytes = (file : List ℕ) × (get files name ≡ Some file) × (length file ≤ limit) × (bytes ≡ without_mark file)
