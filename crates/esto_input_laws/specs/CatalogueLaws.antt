-- That whatever bytes say a catalogue, or have a first fault or a least cycle.
use Rattle.std.specs.Prelude.{ℕ, ◌≢◌, ◌⊎◌, List}
use Rattle.esto_constraint.specs.Graphs.{IsWithin, IsLeastCycle, AreRanks}
use Rattle.esto_constraint.specs.Relations.{IsEdge}
use Rattle.esto_constraint.specs.declared.ranks.Cycle.{Cycle}
use Rattle.esto_semantics.specs.Rules.{Rule}
use Rattle.esto_mapping.specs.Catalogues.{AreSame}
use Rattle.esto_catalog.specs.Reading.{IsCatalogueOf, IsCatalogueError}
use Rattle.esto_mapping.specs.declared.catalogue.Catalogue.{Catalogue}
use Rattle.esto_catalog.specs.declared.fault.CatalogueError.{CatalogueError}
use Rattle.esto_catalog.specs.declared.fault.CatalogueError.TheVariants.{Fault, NotAcyclic, OutOfMemory}
use Rattle.esto_status.specs.declared.fault.CatalogueFault.{CatalogueFault}
use Rattle.esto_input_laws.specs.Totality.{IsFunction}

-- The graph of the relations of rules, which are below the count, has ranks, or a least cycle.
abbrev pub HaveRanksOrCycle : Type 0
HaveRanksOrCycle =
    (rules : List Rule) (count : ℕ) → IsWithin count (IsEdge rules)
    → ((ranks : List ℕ) × AreRanks (IsEdge rules) count ranks) ⊎ ((relations : List ℕ) × IsLeastCycle (IsEdge rules) relations)

-- The bytes say a catalogue, or they have a first fault, or their rules have a least cycle.
abbrev pub HasCatalogueOrError : List ℕ → Type 0
HasCatalogueOrError bytes =
    ((catalogue : Catalogue) × IsCatalogueOf bytes catalogue)
    ⊎ (((fault : CatalogueFault) × IsCatalogueError bytes (Fault fault)) ⊎ ((cycle : Cycle) × IsCatalogueError bytes (NotAcyclic cycle)))

-- So it is whatever the bytes are.
abbrev pub CataloguesAreTotal : Type 0
CataloguesAreTotal = (bytes : List ℕ) → HasCatalogueOrError bytes

-- The error is one of the bytes, not of the memory that there is to read them.
abbrev pub IsOwnError : List ℕ → CatalogueError → Type 0
IsOwnError bytes error = (error ≢ OutOfMemory) × IsCatalogueError bytes error

-- Whatever the bytes are, they have one answer: a catalogue, up to what counts as the same catalogue, or a first fault, or the least cycle of their rules.
abbrev pub CatalogueIsAFunction : Type 0
CatalogueIsAFunction = IsFunction AreSame IsCatalogueOf IsOwnError
