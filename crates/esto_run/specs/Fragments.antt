-- The files of the fragments that a set uses, as steps: each is fetched, and its content read, before the next is fetched.
use Rattle.std.specs.Prelude.{◌≡◌, ℕ, ◌==◌, if◌then◌else◌, List, [], ◌∷◌, ◌++◌, length, slice_get, Option, Some, None, Result, Ok, Err}
use Rattle.esto_mapping.specs.declared.catalogue.Catalogue.{Catalogue}
use Rattle.esto_docmodel.specs.declared.file.Store.{Store}
use Rattle.esto_course.specs.Course.{Course, Names, Stops, judges, gives, and_then, each}
use Rattle.esto_ports.specs.Files.{Files}
use Rattle.esto_ports.specs.declared.file_fault.FileFault.{FileFault}
use Rattle.esto_run.specs.Opened.{Held, AreOpened, AreRowsFor, rows_held}
use Rattle.esto_docs.specs.Stores.{first_fault_in}
use Rattle.esto_stores.specs.Rows.{Row}
use Rattle.esto_views.specs.declared.fragments.FragmentDef.{FragmentDef}
use Rattle.esto_status.specs.Answers.{IsWant, IsCaused}
use Rattle.esto_status.specs.Asked.{AsksIn}
use Rattle.esto_status.specs.Fetch.{HasWithin, fetches}
use Rattle.esto_status.specs.declared.limits.TheConstants.{DATA_LIMIT}
use Rattle.esto_status.specs.declared.status.Status.{Status}
use Rattle.esto_status.specs.declared.status.Status.TheVariants.{BadFragment}

-- A fragment, and where it is stored.
pub record Stored : Type 0 where
  pub definition : FragmentDef
  pub store : Store

-- It is the catalogue's fragment of the number, with its store.
pub record IsStoredAt (catalogue : Catalogue) (number : ℕ) (stored : Stored) : Type 0 where
  pub definition : slice_get catalogue.fragments number ≡ Some stored.definition
  pub store : slice_get catalogue.stores number ≡ Some stored.store

-- The first fault of the content of the fragment's file.
abbrev pub content_fault : Stored → List ℕ → Option FileFault
content_fault stored bytes = first_fault_in stored.store.shape (length stored.definition.view.head) bytes

-- The content of the fragment's file has no fault, or it has a first one.
abbrev pub reads_content : Stored → List ℕ → Course Status (Unit {0})
reads_content stored bytes =
    judges (λ _. content_fault stored bytes ≡ None)
    (λ refusal. (fault : FileFault) × (content_fault stored bytes ≡ Some fault) × (refusal ≡ BadFragment stored.definition.name fault))

-- The fragment's file is no longer than a fragment's may be, and its content has no fault.
abbrev pub opens_stored : Option Files → Stored → Course Status (List ℕ)
opens_stored files stored =
    and_then (fetches files stored.store.file DATA_LIMIT) (λ bytes. and_then (reads_content stored bytes) (λ _. gives bytes))

-- The file of the fragment of the number is opened.
abbrev pub opens_fragment : Option Files → Catalogue → ℕ → Course Status (List ℕ)
opens_fragment files catalogue number = and_then (judges (IsStoredAt catalogue number) (λ _. ⊥)) (opens_stored files)

-- The file of the fragment of the number is no longer than a fragment's may be, has these bytes after one leading mark, and they have no fault.
abbrev pub IsReadableFragment : Files → Catalogue → ℕ → List ℕ → Type 0
IsReadableFragment files catalogue number bytes =
    (stored : Stored) × IsStoredAt catalogue number stored × HasWithin files stored.store.file DATA_LIMIT bytes × (content_fault stored bytes ≡ None)

-- The contents of files, by the numbers of their fragments, before any is opened.
abbrev pub no_contents : ℕ → List ℕ
no_contents number = []

-- The contents, with these bytes for the fragment of the number.
abbrev pub with_content : (ℕ → List ℕ) → ℕ → List ℕ → ℕ → List ℕ
with_content contents number bytes other = if other == number then bytes else contents other

-- One file more is opened.
abbrev pub opens_next : Option Files → Catalogue → ℕ → (ℕ → List ℕ) → ℕ → Course Status (ℕ → List ℕ)
opens_next files catalogue place contents number =
    and_then (opens_fragment files catalogue number) (λ bytes. gives (with_content contents number bytes))

-- The files of the fragments of the numbers are opened, in order.
abbrev pub opens_fragments : Option Files → Catalogue → List ℕ → Course Status (ℕ → List ℕ)
opens_fragments files catalogue numbers = each (opens_next files catalogue) 0 no_contents numbers

-- The fragment of the number has its rows for these bytes, and what was opened before stays.
abbrev pub Takes : Catalogue → ℕ → List ℕ → List (List Row) → List (List Row) → Type 0
Takes catalogue number bytes old new =
    (contents : ℕ → List ℕ) (numbers : List ℕ) → contents number ≡ bytes → AreOpened catalogue.stores contents numbers old
    → AreOpened catalogue.stores contents (numbers ++ number ∷ []) new

-- The content of the fragment's file has no fault, and its rows were taken; or the course stops.
abbrev pub Reads : Catalogue → ℕ → Stored → List ℕ → List (List Row) → List (List Row) → Result (Unit {0}) Status → Type 0
Reads catalogue number stored bytes old new (Ok _) = (reads_content stored bytes).goes tt × Takes catalogue number bytes old new
Reads catalogue number stored bytes old new (Err refusal) = Stops IsWant (IsCaused ⊥) (reads_content stored bytes) refusal

-- The file of the fragment of the number was opened, and its rows taken; or the course stops. To the names that were asked for came those for which it asked.
abbrev pub OpensNext : Option Files → Catalogue → ℕ → List (List Row) → List (List Row) → Type 0 → Option Names → Option Names
    → Result (Unit {0}) Status → Type 0
OpensNext files catalogue number old new rose before after (Ok _) =
    (bytes : List ℕ) × (opens_fragment files catalogue number).goes bytes × Takes catalogue number bytes old new
    × AsksIn before after (opens_fragment files catalogue number) (Ok bytes)
OpensNext files catalogue number old new rose before after (Err refusal) =
    Stops IsWant (IsCaused rose) (opens_fragment files catalogue number) refusal × AsksIn before after (opens_fragment files catalogue number) (Err refusal)

-- The rows are those of the files of the fragments of the numbers, all of which were opened; or the course stops. To the names that were asked for came those
-- for which it asked.
abbrev pub OpensAll : Option Files → Catalogue → List ℕ → Type 0 → Option Names → Option Names → Result (List Held) Status → Type 0
OpensAll files catalogue numbers rose before after (Ok opened) =
    (contents : ℕ → List ℕ) × (opens_fragments files catalogue numbers).goes contents × AreOpened catalogue.stores contents numbers (rows_held opened)
    × AreRowsFor catalogue.fragments opened × AsksIn before after (opens_fragments files catalogue numbers) (Ok contents)
OpensAll files catalogue numbers rose before after (Err refusal) =
    Stops IsWant (IsCaused rose) (opens_fragments files catalogue numbers) refusal
    × AsksIn before after (opens_fragments files catalogue numbers) (Err refusal)
