-- What is opened over the same files is the same: catalogues up to what they mean, and queries over such catalogues.
use Rattle.std.specs.Prelude.{ℕ, List, Some}
use Rattle.esto_mapping.specs.Catalogues.{AreSame}
use Rattle.esto_mapping.specs.declared.catalogue.Catalogue.{Catalogue}
use Rattle.esto_ports.specs.Files.{Files}
use Rattle.esto_status.specs.Calm.{AgreeCalmly}
use Rattle.esto_opening.specs.Opening.{opens_catalogue, opens_query, opens_union}
use Rattle.esto_query.specs.Same.{IsSameQuery, AreSameQueries}

-- One file says catalogues that say the same, or refuses in one way.
abbrev pub CataloguesOpenAlike : Type 0
CataloguesOpenAlike = (files : Files) (name : List ℕ) → AgreeCalmly AreSame (opens_catalogue (Some files) name) (opens_catalogue (Some files) name)

-- Over catalogues that say the same, one file says the same query, or refuses in one way.
abbrev pub QueriesOpenAlike : Type 0
QueriesOpenAlike =
    (files : Files) (name : List ℕ) (catalogue other : Catalogue) → AreSame catalogue other
    → AgreeCalmly IsSameQuery (opens_query (Some files) name catalogue) (opens_query (Some files) name other)

-- And the same union of queries.
abbrev pub UnionsOpenAlike : Type 0
UnionsOpenAlike =
    (files : Files) (name : List ℕ) (catalogue other : Catalogue) → AreSame catalogue other
    → AgreeCalmly AreSameQueries (opens_union (Some files) name catalogue) (opens_union (Some files) name other)
