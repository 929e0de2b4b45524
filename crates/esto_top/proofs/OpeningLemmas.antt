-- The opening of a catalogue, of a query and of a union comes to an end or asks for a file that is not there.
use Rattle.std.proofs.Common.{◌≡◌, inl, inr, ℕ, List, Some, refl}
use Rattle.esto_catalog.specs.Reading.{IsCatalogueOf, IsCatalogueError}
use Rattle.esto_mapping.specs.declared.catalogue.Catalogue.{Catalogue}
use Rattle.esto_catalog.specs.declared.fault.CatalogueError.{CatalogueError}
use Rattle.esto_catalog.specs.declared.fault.CatalogueError.TheVariants.{Fault, NotAcyclic}
use Rattle.esto_course.specs.Course.{Course, and_then, gives}
use Rattle.esto_status.specs.Fetch.{fetches}
use Rattle.esto_opening.specs.Opening.{opens_catalogue, opens_query, opens_union, reads_catalogue, reads_query, reads_union, status_of, unnamed}
use Rattle.esto_status.specs.declared.limits.TheConstants.{CATALOGUE_LIMIT, QUERY_LIMIT}
use Rattle.esto_status.specs.declared.reply.Reply.TheVariants.{Done}
use Rattle.esto_status.specs.declared.status.Status.{Status}
use Rattle.esto_status.specs.declared.status.Status.TheVariants as status
use Rattle.esto_ports.specs.Files.{Files}
use Rattle.esto_query.specs.Schemas.{arities_of}
use Rattle.esto_query.specs.declared.query.Query.{Query}
use Rattle.esto_read.specs.Readings.{IsReading, IsFirstFault}
use Rattle.esto_read.specs.Unions.{IsUnionReading, IsFirstUnionFault}
use Rattle.esto_read.specs.declared.read.Form.TheVariants as form
use Rattle.esto_read.specs.declared.read.NamedQuery.{NamedQuery}
use Rattle.esto_text.specs.declared.fault.TextFault.{TextFault}
use Rattle.esto_top.specs.Ends.{Ends, EndsOrLacks}
use Rattle.esto_top.specs.LawsBelow.{ReadingLaws}
use Rattle.esto_top.specs.Over.{over_query}
use Rattle.esto_top.proofs.CourseLemmas.{ends_then, fetches_ends, gives_ends, judges_accepts, judges_refuses}

module _ (laws : ReadingLaws) where
  -- ---- what bytes say

  catalogue_read : {lack : Type 0} (bytes : List ℕ) → Ends lack (reads_catalogue bytes)
  catalogue_read bytes = elim (laws.catalogues bytes) [
    | inl (catalogue, is) ↦ judges_accepts (IsCatalogueOf bytes) Refuses catalogue is
    | inr (inl (fault, is)) ↦ judges_refuses (IsCatalogueOf bytes) Refuses (status.BadCatalogue fault) (record { cause = tt }) (Fault fault, is, refl)
    | inr (inr (cycle, is)) ↦ judges_refuses (IsCatalogueOf bytes) Refuses (status.NotAcyclic cycle) (record { cause = tt }) (NotAcyclic cycle, is, refl)
  ]
    where
      Refuses : Status → Type 0
      Refuses refusal = (cause : CatalogueError) × IsCatalogueError bytes cause × (refusal ≡ status_of cause)

  module _ {lack : Type 0} (catalogue : Catalogue) (bytes : List ℕ) where
    query_read : Ends lack (reads_query catalogue bytes)
    query_read = elim (laws.queries form.Query catalogue.words (arities_of catalogue.schema) (laws.sound catalogue).vocabulary bytes) [
      | inl (named, is) ↦ judges_accepts Accepts Refuses named.query (named, is, refl)
      | inr (fault, is) ↦ judges_refuses Accepts Refuses (status.BadQuery fault) (record { cause = tt }) (fault, is, refl)
    ]
      where
        Accepts : Query → Type 0
        Accepts query = (named : NamedQuery) × IsReading form.Query catalogue.words (arities_of catalogue.schema) bytes named × (query ≡ named.query)

        Refuses : Status → Type 0
        Refuses refusal =
            (fault : TextFault) × IsFirstFault form.Query catalogue.words (arities_of catalogue.schema) bytes fault × (refusal ≡ status.BadQuery fault)

    union_read : Ends lack (reads_union catalogue bytes)
    union_read = elim (laws.unions catalogue.words (arities_of catalogue.schema) (laws.sound catalogue).vocabulary bytes) [
      | inl (named, is) ↦ judges_accepts Accepts Refuses (unnamed named) (named, is, refl)
      | inr (fault, is) ↦ judges_refuses Accepts Refuses (status.BadQuery fault) (record { cause = tt }) (fault, is, refl)
    ]
      where
        Accepts : List Query → Type 0
        Accepts queries = (named : List NamedQuery) × IsUnionReading catalogue.words (arities_of catalogue.schema) bytes named × (queries ≡ unnamed named)

        Refuses : Status → Type 0
        Refuses refusal =
            (fault : TextFault) × IsFirstUnionFault catalogue.words (arities_of catalogue.schema) bytes fault × (refusal ≡ status.BadQuery fault)

  -- ---- what files say

  module _ (files : Files) (name : List ℕ) where
    pub catalogue_opens : EndsOrLacks (opens_catalogue (Some files) name)
    catalogue_opens =
        ends_then (fetches (Some files) name CATALOGUE_LIMIT) reads_catalogue (fetches_ends files name CATALOGUE_LIMIT) (λ bytes _. catalogue_read bytes)

    pub query_opens : (catalogue : Catalogue) → EndsOrLacks (opens_query (Some files) name catalogue)
    query_opens catalogue =
        ends_then (fetches (Some files) name QUERY_LIMIT) (reads_query catalogue) (fetches_ends files name QUERY_LIMIT) (λ bytes _. query_read catalogue bytes)

    pub union_opens : (catalogue : Catalogue) → EndsOrLacks (opens_union (Some files) name catalogue)
    union_opens catalogue =
        ends_then (fetches (Some files) name QUERY_LIMIT) (reads_union catalogue) (fetches_ends files name QUERY_LIMIT) (λ bytes _. union_read catalogue bytes)

    -- where the text of what is told of the query comes to an end, so does its reply
    pub query_replies : (catalogue : Catalogue) (texts : Query → Course Status (List ℕ)) → ((query : Query) → EndsOrLacks (texts query))
        → EndsOrLacks (over_query (Some files) name catalogue texts)
    query_replies catalogue texts ends =
        ends_then (opens_query (Some files) name catalogue) (λ query. and_then (texts query) (λ text. gives (Done text))) (query_opens catalogue)
        (λ query _. ends_then (texts query) (λ text. gives (Done text)) (ends query) (λ text _. gives_ends (Done text)))
