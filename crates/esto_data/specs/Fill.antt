-- What `fill` says of a fragment.
use Rattle.std.specs.Prelude.{◌≡◌, ◌≢◌, ℕ, ◌<◌, List, map, slice_get, Contains, Option, Some, Ok, Err, length}
use Rattle.esto_mapping.specs.declared.catalogue.Catalogue.{Catalogue}
use Rattle.esto_run.specs.Fragments.{Stored, IsStoredAt}
use Rattle.esto_course.specs.Course.{Course, judges, gives, and_then}
use Rattle.esto_fill.specs.Databases.{database_of}
use Rattle.esto_fill.specs.Filled.{Fills, IsOpenedAs}
use Rattle.esto_ports.specs.Marks.{without_mark}
use Rattle.esto_fill.specs.declared.filled.FillError.{FillError}
use Rattle.esto_fill.specs.declared.filled.FillError.TheVariants as filled
use Rattle.esto_ports.specs.Files.{Files}
use Rattle.esto_query.specs.Making.{query_of}
use Rattle.esto_semantics.specs.Queries.{IsAnswer}
use Rattle.esto_semantics.specs.declared.fact.Fact.{Fact}
use Rattle.esto_semantics.specs.declared.fact.Value.{Value}
use Rattle.esto_term.specs.declared.term.Term.{Term}
use Rattle.esto_views.specs.declared.fragments.FragmentDef.{FragmentDef}
use Rattle.esto_data.specs.Datasets.{Names, loads}
use Rattle.esto_status.specs.declared.reply.Reply.{Reply}
use Rattle.esto_status.specs.declared.reply.Reply.TheVariants.{Done}
use Rattle.esto_status.specs.declared.status.Status.{Status}
use Rattle.esto_status.specs.declared.status.Status.TheVariants as status

-- The names of the fragments, in order.
abbrev pub names_of : List FragmentDef → List (List ℕ)
names_of fragments = map (λ fragment. fragment.name) fragments

-- The number is that of the first of the names that is this one.
pub record IsFirstOf (names : List (List ℕ)) (name : List ℕ) (number : ℕ) : Type 0 where
  pub there : slice_get names number ≡ Some name
  pub first : (earlier : ℕ) → earlier < number → slice_get names earlier ≢ Some name

-- The fragment of the name is found; else NoSuchFragment.
abbrev pub finds_fragment : Catalogue → List ℕ → Course Status ℕ
finds_fragment catalogue name =
    judges (IsFirstOf (names_of catalogue.fragments) name)
    (λ refusal. ¬ (Contains (names_of catalogue.fragments) name) × (refusal ≡ status.NoSuchFragment name))

-- The row of values is one of the fragment's view over the facts.
abbrev pub IsRowOfView : FragmentDef → List (Fact Term) → List Value → Type 0
IsRowOfView fragment facts values = IsAnswer (query_of fragment.view) (database_of facts) values

-- The status of why a file is not filled.
abbrev pub fill_status : FillError → Status
fill_status (filled.NodeInRow column) = status.NodeInRow column
fill_status (filled.KeyText cell) = status.KeyText cell
fill_status filled.OutOfMemory = status.OutOfMemory

-- The text of the file is made of the rows of the fragment's view, and says these rows when it is read.
pub record IsFilled (stored : Stored) (facts : List (Fact Term)) (text : List ℕ) : Type 0 where
  pub filled : Fills stored.store.shape (IsRowOfView stored.definition facts) (Ok text)
  pub opened : IsOpenedAs stored.store.shape (length stored.definition.view.head) (IsRowOfView stored.definition facts) (without_mark text)

-- The text of the file is made of the rows of the fragment's view.
abbrev pub IsMade : Stored → List (Fact Term) → List ℕ → Type 0
IsMade stored facts text = Fills stored.store.shape (IsRowOfView stored.definition facts) (Ok text)

-- A text is given for the file, of which this is so; or there is a cause for which there is none.
abbrev pub gives_file : (Stored → List (Fact Term) → List ℕ → Type 0) → Stored → List (Fact Term) → Course Status (List ℕ)
gives_file Is stored facts =
    judges (Is stored facts)
    (λ refusal. (cause : FillError) × Fills stored.store.shape (IsRowOfView stored.definition facts) (Err cause) × (refusal ≡ fill_status cause))

-- The datasets that the view of the fragment of the number names are loaded, and the text of the fragment's file is the
-- reply.
abbrev pub gives_fragment : (Stored → List (Fact Term) → List ℕ → Type 0) → Option Files → Catalogue → ℕ → Course Status Reply
gives_fragment Is files catalogue number =
    and_then (judges (IsStoredAt catalogue number) (λ _. ⊥)) (λ stored.
    and_then (loads files catalogue.datasets (Names (query_of stored.definition.view).body)) (λ facts.
    and_then (gives_file Is stored facts) (λ text.
    gives (Done text))))

-- The fragment is found, and the text of its file is the reply.
abbrev pub gives_named : (Stored → List (Fact Term) → List ℕ → Type 0) → Option Files → List ℕ → Catalogue → Course Status Reply
gives_named Is files name catalogue = and_then (finds_fragment catalogue name) (gives_fragment Is files catalogue)

-- ---- what the command does

-- The file is filled; or there is a cause for which it is not.
abbrev pub fills_file : Stored → List (Fact Term) → Course Status (List ℕ)
fills_file stored facts = gives_file IsFilled stored facts

-- The datasets that the view of the fragment of the number names are loaded, and the fragment's file is filled.
abbrev pub fills_fragment : Option Files → Catalogue → ℕ → Course Status Reply
fills_fragment files catalogue number = gives_fragment IsFilled files catalogue number

-- The fragment is found, and its file filled.
abbrev pub fills_named : Option Files → List ℕ → Catalogue → Course Status Reply
fills_named files name catalogue = gives_named IsFilled files name catalogue
