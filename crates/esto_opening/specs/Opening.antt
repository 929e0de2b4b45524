-- The catalogue and the query of a command, as steps: each file is fetched, and then read.
use Rattle.std.specs.Prelude.{◌≡◌, ℕ, List, Option, map}
use Rattle.esto_catalog.specs.Reading.{IsCatalogueOf, IsCatalogueError}
use Rattle.esto_mapping.specs.declared.catalogue.Catalogue.{Catalogue}
use Rattle.esto_catalog.specs.declared.fault.CatalogueError.{CatalogueError}
use Rattle.esto_catalog.specs.declared.fault.CatalogueError.TheVariants as error
use Rattle.esto_ports.specs.Files.{Files}
use Rattle.esto_query.specs.Schemas.{arities_of}
use Rattle.esto_query.specs.declared.query.Query.{Query}
use Rattle.esto_read.specs.Readings.{IsReading, IsFirstFault}
use Rattle.esto_read.specs.Unions.{IsUnionReading, IsFirstUnionFault}
use Rattle.esto_read.specs.declared.read.Form.TheVariants as form
use Rattle.esto_read.specs.declared.read.NamedQuery.{NamedQuery}
use Rattle.esto_text.specs.declared.fault.TextFault.{TextFault}
use Rattle.esto_course.specs.Course.{Course, judges, and_then}
use Rattle.esto_status.specs.Fetch.{HasWithin, fetches}
use Rattle.esto_status.specs.declared.status.Status.{Status}
use Rattle.esto_status.specs.declared.status.Status.TheVariants as status
use Rattle.esto_status.specs.declared.limits.TheConstants.{CATALOGUE_LIMIT, QUERY_LIMIT}

-- The status of why a catalogue is not read.
abbrev pub status_of : CatalogueError → Status
status_of (error.Fault fault) = status.BadCatalogue fault
status_of (error.NotAcyclic cycle) = status.NotAcyclic cycle
status_of error.OutOfMemory = status.OutOfMemory

-- The bytes say a catalogue, or there is a cause for which they say none.
abbrev pub reads_catalogue : List ℕ → Course Status Catalogue
reads_catalogue bytes =
    judges (IsCatalogueOf bytes) (λ refusal. (cause : CatalogueError) × IsCatalogueError bytes cause × (refusal ≡ status_of cause))

-- The catalogue of a file that is no longer than a catalogue may be.
abbrev pub opens_catalogue : Option Files → List ℕ → Course Status Catalogue
opens_catalogue files name = and_then (fetches files name CATALOGUE_LIMIT) reads_catalogue

-- The bytes are the text of a query over the catalogue's words, or the text has a first fault.
abbrev pub reads_query : Catalogue → List ℕ → Course Status Query
reads_query catalogue bytes =
    judges (λ query. (named : NamedQuery) × IsReading form.Query catalogue.words (arities_of catalogue.schema) bytes named × (query ≡ named.query))
    (λ refusal. (fault : TextFault) × IsFirstFault form.Query catalogue.words (arities_of catalogue.schema) bytes fault × (refusal ≡ status.BadQuery fault))

-- The query of a file that is no longer than a query may be.
abbrev pub opens_query : Option Files → List ℕ → Catalogue → Course Status Query
opens_query files name catalogue = and_then (fetches files name QUERY_LIMIT) (reads_query catalogue)

-- The queries without the names of their heads.
abbrev pub unnamed : List NamedQuery → List Query
unnamed queries = map (λ query. query.query) queries

-- The bytes are the text of a union of queries over the catalogue's words, or the text has a first fault.
abbrev pub reads_union : Catalogue → List ℕ → Course Status (List Query)
reads_union catalogue bytes =
    judges (λ queries. (named : List NamedQuery) × IsUnionReading catalogue.words (arities_of catalogue.schema) bytes named × (queries ≡ unnamed named))
    (λ refusal. (fault : TextFault) × IsFirstUnionFault catalogue.words (arities_of catalogue.schema) bytes fault × (refusal ≡ status.BadQuery fault))

-- The queries of a file that is no longer than a query may be.
abbrev pub opens_union : Option Files → List ℕ → Catalogue → Course Status (List Query)
opens_union files name catalogue = and_then (fetches files name QUERY_LIMIT) (reads_union catalogue)

-- The files say this catalogue.
pub record FilesSayCatalogue (files : Files) (name : List ℕ) (catalogue : Catalogue) : Type 0 where
  pub bytes : List ℕ
  pub has : HasWithin files name CATALOGUE_LIMIT bytes
  pub is_catalogue : IsCatalogueOf bytes catalogue

-- They say this query over the catalogue.
pub record FilesSayQuery (files : Files) (name : List ℕ) (catalogue : Catalogue) (query : Query) : Type 0 where
  pub bytes : List ℕ
  pub has : HasWithin files name QUERY_LIMIT bytes
  pub named : NamedQuery
  pub is_query : IsReading form.Query catalogue.words (arities_of catalogue.schema) bytes named
  pub query_is : query ≡ named.query

-- They say these queries, a union, over the catalogue.
pub record FilesSayUnion (files : Files) (name : List ℕ) (catalogue : Catalogue) (queries : List Query) : Type 0 where
  pub bytes : List ℕ
  pub has : HasWithin files name QUERY_LIMIT bytes
  pub named : List NamedQuery
  pub is_union : IsUnionReading catalogue.words (arities_of catalogue.schema) bytes named
  pub queries_are : queries ≡ unnamed named
