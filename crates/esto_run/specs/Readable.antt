-- The files of fragments that are readable are those that are opened.
use Rattle.std.specs.Prelude.{◌≡◌, ℕ, List, Contains, Some}
use Rattle.esto_mapping.specs.Catalogues.{AreSame}
use Rattle.esto_mapping.specs.declared.catalogue.Catalogue.{Catalogue}
use Rattle.esto_ports.specs.Files.{Files}
use Rattle.esto_ports.specs.declared.file_fault.FileFault.{FileFault}
use Rattle.esto_status.specs.Calm.{Leads}
use Rattle.esto_run.specs.Fragments.{IsReadableFragment, opens_fragments}
use Rattle.esto_status.specs.declared.status.Status.{Status}
use Rattle.esto_status.specs.declared.status.Status.TheVariants.{BadFragment, ReadFault, TooLong}

-- The files of the fragments of the numbers are readable, with these contents.
abbrev pub AreReadable : Files → Catalogue → List ℕ → (ℕ → List ℕ) → Type 0
AreReadable files catalogue numbers contents =
    (number : ℕ) → Contains numbers number → IsReadableFragment files catalogue number (contents number)

-- The status tells of a fragment's file: that it can't be read, that it is too long, or its fault.
pub data TellsOfFile (said : Status) : Type 0 where
  fails : (name : List ℕ) → said ≡ ReadFault name → TellsOfFile said
  is_longer : (name : List ℕ) (limit : ℕ) → said ≡ TooLong name limit → TellsOfFile said
  has_fault : (name : List ℕ) (fault : FileFault) → said ≡ BadFragment name fault → TellsOfFile said

-- Files of fragments that are opened over a catalogue are readable over each that says the same, with the contents that they are opened with; if they are not
-- opened, a file is told of.
abbrev pub OpenedAreReadable : Type 0
OpenedAreReadable =
    (files : Files) (catalogue other : Catalogue) (numbers : List ℕ) → AreSame catalogue other
    → Leads (opens_fragments (Some files) other numbers) (AreReadable files catalogue numbers) TellsOfFile

-- Files that are readable over a catalogue are opened over each that says the same, with their contents.
abbrev pub ReadableAreOpened : Type 0
ReadableAreOpened =
    (files : Files) (catalogue other : Catalogue) (numbers : List ℕ) (contents : ℕ → List ℕ) → AreSame catalogue other
    → AreReadable files catalogue numbers contents
    → Leads (opens_fragments (Some files) other numbers) (λ opened. (number : ℕ) → Contains numbers number → opened number ≡ contents number) (λ _. ⊥)
