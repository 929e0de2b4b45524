-- Laws of the reading: bytes say one catalogue, or have one first fault.
use Rattle.std.specs.Prelude.{◌≡◌, ◌≢◌, ℕ, List}
use Rattle.esto_catalog.specs.Reading.{IsCatalogueOf, IsCatalogueError}
use Rattle.esto_mapping.specs.declared.catalogue.Catalogue.{Catalogue}
use Rattle.esto_catalog.specs.declared.fault.CatalogueError.{CatalogueError}
use Rattle.esto_catalog.specs.declared.fault.CatalogueError.TheVariants as error
use Rattle.esto_mapping.specs.Catalogues.{AreSame}

-- Bytes say at most one catalogue.
abbrev pub HaveOneCatalogue : Type 0
HaveOneCatalogue = (bytes : List ℕ) (catalogue other : Catalogue) → IsCatalogueOf bytes catalogue → IsCatalogueOf bytes other → AreSame catalogue other

-- Bytes that say a catalogue have no fault.
abbrev pub HaveNoError : Type 0
HaveNoError = (bytes : List ℕ) (catalogue : Catalogue) (cause : CatalogueError) → IsCatalogueOf bytes catalogue → IsCatalogueError bytes cause
    → cause ≡ error.OutOfMemory

-- Bytes have at most one first fault.
abbrev pub HaveOneError : Type 0
HaveOneError =
    (bytes : List ℕ) (cause other : CatalogueError) → IsCatalogueError bytes cause → IsCatalogueError bytes other → cause ≢ error.OutOfMemory
    → other ≢ error.OutOfMemory
    → cause ≡ other
