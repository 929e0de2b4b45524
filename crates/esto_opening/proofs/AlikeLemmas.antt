-- What is opened over catalogues that say the same agrees.
use Rattle.std.proofs.Common.{◌≡◌, ◌≢◌, ℕ, List, Some, sym, ap, subst, ◌∙◌}
use Rattle.esto_catalog.specs.Determined.{HaveOneCatalogue, HaveNoError, HaveOneError}
use Rattle.esto_mapping.specs.Catalogues.{AreSame, CataloguesAreSound}
use Rattle.esto_catalog.specs.Reading.{IsCatalogueOf, IsCatalogueError}
use Rattle.esto_mapping.specs.declared.catalogue.Catalogue.{Catalogue}
use Rattle.esto_catalog.specs.declared.fault.CatalogueError.{CatalogueError}
use Rattle.esto_catalog.specs.declared.fault.CatalogueError.TheVariants as error
use Rattle.esto_course.proofs.Determined.{then_agree, judges_agree}
use Rattle.esto_ports.specs.Files.{Files}
use Rattle.esto_query.specs.Schemas.{arities_of}
use Rattle.esto_query.specs.declared.query.Query.{Query}
use Rattle.esto_read.specs.Readings.{IsReading, IsFirstFault, HaveOneReading, HaveNoFault, HaveOneFault}
use Rattle.esto_docmodel.specs.Words.{IsVocabulary}
use Rattle.esto_read.specs.declared.read.Form.TheVariants as form
use Rattle.esto_read.specs.declared.read.NamedQuery.{NamedQuery}
use Rattle.esto_docmodel.specs.declared.words.Word.{Word}
use Rattle.esto_text.specs.declared.fault.TextFault.{TextFault}
use Rattle.esto_query.specs.Same.{IsSameQuery}
use Rattle.esto_status.specs.Answers.{IsCaused}
use Rattle.esto_status.specs.Calm.{AgreeCalmly}
use Rattle.esto_opening.specs.Opening.{status_of, reads_catalogue, opens_catalogue, reads_query, opens_query}
use Rattle.esto_status.specs.declared.limits.TheConstants.{CATALOGUE_LIMIT, QUERY_LIMIT}
use Rattle.esto_status.specs.declared.status.Status.{Status}
use Rattle.esto_status.specs.declared.status.Status.TheVariants as status
use Rattle.esto_status.proofs.AgreeLemmas.{fetches-agree}
use Rattle.esto_status.proofs.Steps.{never_wanting}

-- the query is a reading of the bytes over the words
abbrev IsQueryOver : List Word → List ℕ → List ℕ → Query → Type 0
IsQueryOver words schema bytes query = (named : NamedQuery) × IsReading form.Query words schema bytes named × (query ≡ named.query)

-- two readings of one text are the same query
same_reading : HaveOneReading → {words : List Word} {schema : List ℕ} → IsVocabulary schema words → (bytes : List ℕ) (query other : Query)
    → IsQueryOver words schema bytes query → IsQueryOver words schema bytes other → IsSameQuery query other
same_reading one_reading {words} {schema} vocabulary bytes query other here there =
    let same = one_reading form.Query words schema bytes here.0 there.0 vocabulary here.1 there.1 in
    record {
      head = ap (λ (it : Query). it.head) here.2 ∙ same.1 ∙ sym (ap (λ (it : Query). it.head) there.2);
      body = ap (λ (it : Query). it.body) here.2 ∙ same.2 ∙ sym (ap (λ (it : Query). it.body) there.2);
      names = ap (λ (it : Query). it.names) here.2 ∙ same.3 ∙ sym (ap (λ (it : Query). it.names) there.2);
    }

-- ---- catalogues and queries

module _ (sound : CataloguesAreSound) (one : HaveOneCatalogue) (apart : HaveNoError) (one_error : HaveOneError) (one_reading : HaveOneReading)
    (no_fault : HaveNoFault) (one_fault : HaveOneFault) (files : Files) where
  -- no cause of a status that has its own is want of memory
  not_wanting : (said : Status) (cause : CatalogueError) → IsCaused ⊥ said → said ≡ status_of cause → cause ≢ error.OutOfMemory
  not_wanting said cause caused is wanting = never_wanting ⊥ said (is ∙ ap status_of wanting) caused

  catalogues_agree : (bytes : List ℕ) → AgreeCalmly AreSame (reads_catalogue bytes) (reads_catalogue bytes)
  catalogues_agree bytes = judges_agree _ _ _ _ _ _ (one bytes)
      (λ said other_said caused other_caused here there.
      here.2 ∙ ap status_of (one_error bytes here.0 there.0 here.1 there.1 (not_wanting said here.0 caused here.2)
      (not_wanting other_said there.0 other_caused there.2)) ∙ sym there.2)
      never never
    where
      never : (catalogue : Catalogue) (said : Status) → IsCaused ⊥ said → IsCatalogueOf bytes catalogue
          → (cause : CatalogueError) × IsCatalogueError bytes cause × (said ≡ status_of cause) → ⊥
      never catalogue said caused is_catalogue (cause, is_error, is) = not_wanting said cause caused is (apart bytes catalogue cause is_catalogue is_error)

  pub catalogues_open : (name : List ℕ) → AgreeCalmly AreSame (opens_catalogue (Some files) name) (opens_catalogue (Some files) name)
  catalogues_open name =
      then_agree _ ◌≡◌ AreSame _ _ _ _ (fetches-agree files name CATALOGUE_LIMIT)
      (λ bytes other goes same. subst (λ it. AgreeCalmly AreSame (reads_catalogue bytes) (reads_catalogue it)) same (catalogues_agree bytes))

  module _ (catalogue other : Catalogue) (alike : AreSame catalogue other) where
    -- a reading and a fault over the other catalogue are ones over this
    reading_back : (bytes : List ℕ) (named : NamedQuery) → IsReading form.Query other.words (arities_of other.schema) bytes named
        → IsReading form.Query catalogue.words (arities_of catalogue.schema) bytes named
    reading_back bytes named reading =
        subst (λ it. IsReading form.Query it (arities_of catalogue.schema) bytes named) (sym alike.words)
        (subst (λ it. IsReading form.Query other.words (arities_of it) bytes named) (sym alike.schema) reading)

    fault_back : (bytes : List ℕ) (fault : TextFault) → IsFirstFault form.Query other.words (arities_of other.schema) bytes fault
        → IsFirstFault form.Query catalogue.words (arities_of catalogue.schema) bytes fault
    fault_back bytes fault first =
        subst (λ it. IsFirstFault form.Query it (arities_of catalogue.schema) bytes fault) (sym alike.words)
        (subst (λ it. IsFirstFault form.Query other.words (arities_of it) bytes fault) (sym alike.schema) first)

    query_agree : (bytes : List ℕ) → AgreeCalmly IsSameQuery (reads_query catalogue bytes) (reads_query other bytes)
    query_agree bytes = judges_agree _ _ _ _ _ _
        (λ query other_query here there.
        same_reading one_reading (sound catalogue).vocabulary bytes query other_query here (there.0, reading_back bytes there.0 there.1, there.2))
        (λ said other_said caused other_caused here there.
        here.2 ∙ ap status.BadQuery (one_fault form.Query catalogue.words (arities_of catalogue.schema) bytes here.0 there.0
        (sound catalogue).vocabulary here.1 (fault_back bytes there.0 there.1)) ∙ sym there.2)
        (λ query said caused here there. no_fault form.Query catalogue.words (arities_of catalogue.schema) bytes here.0 there.0
        (sound catalogue).vocabulary here.1 (fault_back bytes there.0 there.1))
        (λ query said caused here there. no_fault form.Query catalogue.words (arities_of catalogue.schema) bytes here.0 there.0 (sound catalogue).vocabulary
        (reading_back bytes here.0 here.1) there.1)

    pub queries_open : (name : List ℕ) → AgreeCalmly IsSameQuery (opens_query (Some files) name catalogue) (opens_query (Some files) name other)
    queries_open name =
        then_agree _ ◌≡◌ IsSameQuery _ _ _ _ (fetches-agree files name QUERY_LIMIT)
        (λ bytes other_bytes goes same. subst (λ it. AgreeCalmly IsSameQuery (reads_query catalogue bytes) (reads_query other it)) same (query_agree bytes))
