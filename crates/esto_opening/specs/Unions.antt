-- Unions of queries that are opened, and the text of their rows.
use Rattle.std.specs.Prelude.{◌↔◌, ℕ, List, [], ◌∷◌, Option, Some}
use Rattle.esto_mapping.specs.declared.catalogue.Catalogue.{Catalogue}
use Rattle.esto_ports.specs.Files.{Files}
use Rattle.esto_query.specs.declared.query.Query.{Query}
use Rattle.esto_query.specs.Same.{AreSameQueries}
use Rattle.esto_status.specs.Calm.{Leads}
use Rattle.esto_opening.specs.Opening.{FilesSayUnion, opens_query, opens_union}
use Rattle.esto_query.specs.Unions.{FormUnion}

-- ---- laws

-- Queries that are opened form a union.
abbrev pub OpenedFormUnions : Type 0
OpenedFormUnions =
    (files : Option Files) (name : List ℕ) (catalogue : Catalogue) (queries : List Query) → (opens_union files name catalogue).goes queries → FormUnion queries

-- The queries that files say are opened.
abbrev pub SaidUnionsOpen : Type 0
SaidUnionsOpen =
    (files : Files) (name : List ℕ) (catalogue : Catalogue) (queries : List Query) → FilesSayUnion files name catalogue queries
    → (opens_union (Some files) name catalogue).goes queries

-- A file is opened as the union of one query exactly where it is opened as that query.
abbrev pub UnionsOfOneAreQueries : Type 0
UnionsOfOneAreQueries =
    (files : Option Files) (name : List ℕ) (catalogue : Catalogue) (query : Query)
    → (opens_union files name catalogue).goes (query ∷ []) ↔ (opens_query files name catalogue).goes query

-- A file that is opened as a query is opened as no other union than that of the query, and is not refused as a union.
abbrev pub QueriesOpenAlone : Type 0
QueriesOpenAlone =
    (files : Files) (name : List ℕ) (catalogue : Catalogue) (query : Query) → (opens_query (Some files) name catalogue).goes query
    → Leads (opens_union (Some files) name catalogue) (AreSameQueries (query ∷ [])) (λ _. ⊥)
