-- Over catalogues that say the same, the files of fragments have the same contents, which have the same rows or the same first fault.
use Rattle.std.specs.Prelude.{◌≡◌, ◌↔◌, ℕ, List, map, Some}
use Rattle.esto_mapping.specs.Catalogues.{AreSame, stored_as}
use Rattle.esto_mapping.specs.declared.catalogue.Catalogue.{Catalogue}
use Rattle.esto_docmodel.specs.declared.file.Store.{Store}
use Rattle.esto_ports.specs.Files.{Files}
use Rattle.esto_docs.specs.Stores.{IsFileRow, first_fault_in}
use Rattle.esto_semantics.specs.declared.fact.Fact.{Fact}
use Rattle.esto_status.specs.Calm.{AgreeCalmly}
use Rattle.esto_run.specs.Fragments.{opens_fragment, opens_fragments}

-- Over catalogues that say the same, the file of a fragment has the same content, or is refused in one way.
abbrev pub FragmentOpensAlike : Type 0
FragmentOpensAlike =
    (files : Files) (catalogue other : Catalogue) (number : ℕ) → AreSame catalogue other
    → AgreeCalmly ◌≡◌ (opens_fragment (Some files) catalogue number) (opens_fragment (Some files) other number)

-- And so have the files of fragments, one after the other.
abbrev pub FragmentsOpenAlike : Type 0
FragmentsOpenAlike =
    (files : Files) (catalogue other : Catalogue) (numbers : List ℕ) → AreSame catalogue other
    → AgreeCalmly ◌≡◌ (opens_fragments (Some files) catalogue numbers) (opens_fragments (Some files) other numbers)

-- For stores that say the same, contents have the same first fault.
abbrev pub StoresHaveOneFault : Type 0
StoresHaveOneFault =
    (store other : Store) (width : ℕ) (bytes : List ℕ) → stored_as store ≡ stored_as other
    → first_fault_in store.shape width bytes ≡ first_fault_in other.shape width bytes

-- Stores that say the same name one file.
abbrev pub StoresHaveOneFile : Type 0
StoresHaveOneFile = (store other : Store) → stored_as store ≡ stored_as other → store.file ≡ other.file

-- Stores that say the same have the same rows for the same contents.
abbrev pub StoresHaveOneContent : Type 0
StoresHaveOneContent =
    (stores others : List Store) (contents : ℕ → List ℕ) (fact : Fact (List ℕ)) → map stored_as stores ≡ map stored_as others
    → IsFileRow stores contents fact ↔ IsFileRow others contents fact
