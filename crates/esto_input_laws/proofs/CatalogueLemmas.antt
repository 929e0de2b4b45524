-- The whole walk over a catalogue goes on or stops.
use Rattle.std.proofs.Common.{◌≡◌, ◌≢◌, ◌⊎◌, ℕ, ◌≤◌, inl, inr, pos, Bool, List, length, Option, Some, None, codes, refl, sym, ap, subst, ◌∙◌}
use Rattle.std.specs.Prelude.{IsUtf8, negsuc}
use Rattle.std.proofs.lemmas.Bool.{cases_eq}
use Rattle.std.proofs.lemmas.List.{length-map}
use Rattle.toml.specs.Data.{Members}
use Rattle.toml.specs.Parse.{parse_document}
use Rattle.esto_constraint.specs.Graphs.{IsAcyclic, IsWithin}
use Rattle.esto_constraint.specs.Relations.{IsEdge}
use Rattle.esto_constraint.specs.declared.ranks.Cycle.{Cycle}
use Rattle.esto_constraint.specs.Constraints.{rules_of}
use Rattle.esto_constraint.specs.declared.rule.Constraint.{Constraint}
use Rattle.esto_query.specs.Schemas.{arities_of}
use Rattle.esto_query.specs.declared.schema.Relation.{Relation}
use Rattle.esto_settings.specs.Settings.{document_of, IsDocument, HasNoTable, setting_at}
use Rattle.esto_settings.specs.declared.setting.Document.{Document}
use Rattle.esto_settings.specs.declared.setting.Field.{Field}
use Rattle.esto_settings.specs.declared.setting.Setting.{Setting}
use Rattle.esto_settings.specs.declared.setting.Setting.TheVariants.{Text, Integer, Texts, Other}
use Rattle.esto_term.proofs.ChoiceLemmas.{Decided}
use Rattle.esto_text.specs.declared.version.Version.{Version}
use Rattle.esto_text.specs.declared.version.Version.TheVariants.{One, Two}
use Rattle.esto_catalog.proofs.DatasetLemmas.{read_all}
use Rattle.esto_catalog.proofs.SchemaLemmas.{scope_is}
use Rattle.esto_catalog.proofs.WalkLemmas.{rules_within, ranks_as, cycle_as, sound_catalogue, found_ranked}
use Rattle.esto_catalog.proofs.WholeLemmas.{datasets_few}
use Rattle.esto_catalog.specs.Datasets.{AreDatasets}
use Rattle.esto_mapping.specs.Datasets.{schema_of, words_of}
use Rattle.esto_catalog.specs.Reading.{IsRankedOf, IsCycleOf, is_ranked, reads_fragments_and_rules, IsMadeOf, makes_catalogue, reads_sections}
use Rattle.esto_catalog.specs.Reading.{reads_catalogue, IsCatalogueOf, IsCatalogueError}
use Rattle.esto_catalog.specs.Rows.{fault_at, top}
use Rattle.esto_catalog.specs.Rules.{all_rules}
use Rattle.esto_catalog.specs.Scope.{IsScope}
use Rattle.esto_catalog.specs.Soundness.{AreSoundFragments, AreSoundRules}
use Rattle.esto_catalog.specs.Whole.{top_keys, number_of, reads_toml, reads_version, reads_core, fits_section, reads_top, tables_of, sections_of, reads_whole}
use Rattle.esto_mapping.specs.declared.catalogue.Catalogue.{Catalogue}
use Rattle.esto_mapping.specs.declared.dataset.Dataset.{Dataset}
use Rattle.esto_catalog.specs.declared.fault.CatalogueError.{CatalogueError}
use Rattle.esto_catalog.specs.declared.fault.CatalogueError.TheVariants.{Fault, NotAcyclic, OutOfMemory}
use Rattle.esto_status.specs.declared.fault.CatalogueKind.TheVariants.{Toml, Version as NoVersion, WrongType, TooMany}
use Rattle.esto_catalog.specs.declared.fragment.Fragments.{Fragments}
use Rattle.esto_catalog.specs.declared.scope.Scope.{Scope}
use Rattle.esto_catalog.specs.declared.walk.Ranked.{Ranked}
use Rattle.esto_catalog.specs.declared.whole.Sections.{Sections}
use Rattle.esto_catalog.specs.declared.whole.TheConstants.{MAX_ENTRIES}
use Rattle.esto_input_laws.proofs.TokenLemmas.{utf8}
use Rattle.esto_input_laws.specs.Totality.{HasOneOf}
use Rattle.esto_input_laws.specs.CatalogueLaws.{HasCatalogueOrError, IsOwnError}
use Rattle.esto_input_laws.proofs.CourseLemmas.{Ends, Any, ends_gives, ends_refuses, ends_demands, ends_accepts, ends_rejects, ends_then}
use Rattle.esto_input_laws.proofs.EncodingLemmas.{with_encodings}
use Rattle.esto_input_laws.proofs.GraphLemmas.{ranks_or_cycle, cycle_names}
use Rattle.esto_input_laws.proofs.PartLemmas.{fragments_end, rules_end}
use Rattle.esto_input_laws.proofs.RowLemmas.{keys_known, datasets_end}
use Rattle.esto_term.proofs.DecisionLemmas.{at_most}

-- ---- the whole file

document : (bytes : List ℕ) → ((document : Document) × IsDocument bytes document) ⊎ HasNoTable bytes
document bytes = by (utf8 bytes) (parse_document bytes) refl
  where
    by : Decided (IsUtf8 bytes) → (parsed : Option Members) → parse_document bytes ≡ parsed
        → ((document : Document) × IsDocument bytes document) ⊎ HasNoTable bytes
    by (inr broken) parsed is = inr (λ members table. broken table.0)
    by (inl whole) None is = inr (λ members table. let wrong : None ≡ Some members = sym is ∙ table.1 in cc)
    by (inl whole) (Some members) is = inl (document_of members, (members, (whole, is), refl))

toml_read : (bytes : List ℕ) → Ends Any (reads_toml bytes)
toml_read bytes = elim (document bytes) [
  | inl (found, is) ↦ ends_accepts Any (IsDocument bytes) _ found is tt
  | inr none ↦ ends_rejects Any _ (λ error. HasNoTable bytes × (error ≡ fault_at Toml top (codes "-"))) (fault_at Toml top (codes "-")) (λ e. cc) (none, refl)
]

-- what the version is set to is the number of one, or of none
version_of : (setting : Option Setting) → Decided ((version : Version) × (setting ≡ Some (Integer (pos (number_of version)))))
version_of None = inr (λ (version, is). cc)
version_of (Some (Text text)) = inr (λ (version, is). cc)
version_of (Some (Texts texts)) = inr (λ (version, is). cc)
version_of (Some Other) = inr (λ (version, is). cc)
version_of (Some (Integer (negsuc n))) = inr (λ (version, is). cc)
version_of (Some (Integer (pos n))) = by (cases_eq n 1) (cases_eq n 2)
  where
    by : Decided (n ≡ 1) → Decided (n ≡ 2) → Decided ((version : Version) × (Some (Integer (pos n)) ≡ Some (Integer (pos (number_of version)))))
    by (inl one) other = inl (One, ap (λ (k : ℕ). Some (Integer (pos k))) one)
    by (inr no_one) (inl two) = inl (Two, ap (λ (k : ℕ). Some (Integer (pos k))) two)
    by (inr no_one) (inr no_two) = inr (λ (version, is). none version cc)
      where
        none : (version : Version) → n ≡ number_of version → ⊥
        none One = no_one
        none Two = no_two

version_read : (setting : Option Setting) → Ends Any (reads_version setting)
version_read setting = elim (version_of setting) [
  | inl (version, is) ↦ ends_accepts Any (λ version. setting ≡ Some (Integer (pos (number_of version)))) _ version is tt
  | inr none ↦ ends_rejects Any _ (λ error. ((version : Version) → ¬ (setting ≡ Some (Integer (pos (number_of version)))))
      × (error ≡ fault_at NoVersion top (codes "version"))) (fault_at NoVersion top (codes "version")) (λ e. cc) (λ version is. none (version, is), refl)
]

core_read : (core : Option Bool) → Ends Any (reads_core core)
core_read None = ends_refuses Any (fault_at WrongType top (codes "core")) (λ e. cc)
core_read (Some core) = ends_gives Any core tt

section_fits : (key : List ℕ) (tables : Option (List (List Field))) → Ends Any (fits_section key tables)
section_fits key None = ends_refuses Any (fault_at WrongType top key) (λ e. cc)
section_fits key (Some tables) = elim (ends_demands (at_most (length tables) MAX_ENTRIES) (fault_at TooMany top key) (λ e. cc)) [
  | inl (unit, goes, few) ↦ inl (unit, goes, tt)
  | inr stopped ↦ inr stopped
]

top_read : (document : Document) → Ends Any (reads_top document)
top_read document =
    ends_then Any Any _ _ (keys_known top (top_keys (setting_at (codes "version") document.fields)) document.fields) (λ unit goes any.
    ends_then Any Any _ _ (version_read (setting_at (codes "version") document.fields)) (λ version goes any.
    ends_then Any Any _ _ (core_read document.core) (λ core goes any.
    ends_then Any Any _ _ (section_fits (codes "dataset") document.datasets) (λ unit goes any.
    ends_then Any Any _ _ (section_fits (codes "fragment") document.fragments) (λ unit goes any.
    ends_then Any Any _ _ (section_fits (codes "constraint") document.constraints) (λ unit goes any.
    ends_gives Any (version, core) tt))))))

abbrev HasFew : Sections → Type 0
HasFew sections = length sections.datasets ≤ MAX_ENTRIES

whole_read : (bytes : List ℕ) → Ends HasFew (reads_whole bytes)
whole_read bytes =
    ends_then Any HasFew _ _ (toml_read bytes) (λ document goes any.
    ends_then Any HasFew _ _ (top_read document) (λ found goes any.
    ends_gives HasFew (sections_of found.0 found.1 document) (few document found goes)))
  where
    few : (document : Document) (found : Version × Bool) → (reads_top document).goes found → length (tables_of document.datasets) ≤ MAX_ENTRIES
    few document (version, core) goes = datasets_few document version core goes

-- ---- the rules and their graph

module _ (datasets : List Dataset) (are : AreDatasets datasets) where
  abbrev scope : Scope
  scope = record { datasets = datasets; schema = schema_of datasets; words = words_of datasets }

  is_scope : IsScope (record { datasets = datasets; schema = schema_of datasets; words = words_of datasets })
  is_scope = scope_is scope are refl refl

  abbrev SoundRanked : Ranked → Type 0
  SoundRanked ranked = AreSoundRules (arities_of (schema_of datasets)) ranked.rules

  ranked_ends : (version : Version) (own : List Constraint) → AreSoundRules (arities_of (schema_of datasets)) own
      → Ends SoundRanked (is_ranked version datasets own)
  ranked_ends version own sound =
      let (rules, all, over) = with_encodings version scope is_scope own sound in
      let within : IsWithin (length (schema_of datasets)) (IsEdge (rules_of rules)) = rules_within (schema_of datasets) rules over in
      elim (ranks_or_cycle (rules_of rules) (length (schema_of datasets)) within) [
        | inl (ranks, exact, acyclic) ↦
            let ranked : Ranked = record { rules = rules; given = length own; ranks = ranks } in
            ends_accepts SoundRanked (IsRankedOf version datasets own) _ ranked (record {
              rules = all;
              given_are = refl;
              acyclic = subst (λ r. IsAcyclic (IsEdge r)) all.all acyclic;
              ranks = ranks_as (rules_of rules) (all_rules version datasets own) (schema_of datasets) (schema_of datasets) ranks all.all refl exact;
            }) over
        | inr (relations, least) ↦
            let (names, named) = cycle_names (schema_of datasets) (rules_of rules) relations within least
            (length-map (schema_of datasets) (λ (r : Relation). r.name)) in
            let cycle : Cycle = record { relations = relations; names = names } in
            ends_rejects SoundRanked _ (λ error. (cycle : Cycle) × IsCycleOf datasets (all_rules version datasets own) cycle × (error ≡ NotAcyclic cycle))
            (NotAcyclic cycle) (λ e. cc)
            (cycle, cycle_as datasets (rules_of rules) (all_rules version datasets own) (schema_of datasets) cycle all.all refl (least, named), refl)
      ]

  abbrev SoundFound : Fragments × Ranked → Type 0
  SoundFound found = AreSoundFragments (arities_of (schema_of datasets)) found.0 × AreSoundRules (arities_of (schema_of datasets)) found.1.rules

  found_ends : (sections : Sections) → Ends SoundFound (reads_fragments_and_rules sections datasets)
  found_ends sections =
      ends_then (AreSoundFragments (arities_of (schema_of datasets))) SoundFound _ _ (fragments_end datasets are sections.fragments) (λ fragments goes sound.
      ends_then SoundRanked SoundFound _ _
      (ends_then (AreSoundRules (arities_of (schema_of datasets))) SoundRanked _ _ (rules_end datasets are sections.version sections.constraints)
      (λ own goes over. ranked_ends sections.version own over))
      (λ ranked goes over. ends_gives SoundFound (fragments, ranked) (sound, over)))

  made_ends : (sections : Sections) (found : Fragments × Ranked) → (reads_fragments_and_rules sections datasets).goes found → SoundFound found
      → Ends Any (makes_catalogue sections.core datasets found.0 found.1)
  made_ends sections found goes (sound, over) =
      let (version, own, exact) = found_ranked sections datasets found goes in
      let catalogue : Catalogue = record {
        schema = schema_of datasets;
        words = words_of datasets;
        datasets = datasets;
        fragments = found.0.definitions;
        stores = found.0.stores;
        rules = found.1.rules;
        given = found.1.given;
        ranks = found.1.ranks;
        core = sections.core;
        sound = ∣ sound_catalogue version scope found.0 own found.1 is_scope sound over exact ∣₁;
      } in
      ends_accepts Any (IsMadeOf sections.core datasets found.0 found.1) _ catalogue (record {
        schema = refl;
        words = refl;
        same_datasets = refl;
        definitions = refl;
        stores = refl;
        rules = refl;
        given = refl;
        ranks = refl;
        core_is = refl;
      }) tt

-- ---- the walk

sections_end : (sections : Sections) → HasFew sections → Ends Any (reads_sections sections)
sections_end sections few =
    ends_then Any Any _ _ (datasets_end sections.datasets) (λ datasets goes any.
    let are = read_all sections.datasets datasets few goes in
    ends_then (SoundFound datasets are) Any _ _ (found_ends datasets are sections) (λ found found_goes sound.
    made_ends datasets are sections found found_goes sound))

catalogue_ends : (bytes : List ℕ) → Ends Any (reads_catalogue bytes)
catalogue_ends bytes = ends_then HasFew Any _ _ (whole_read bytes) (λ sections goes few. sections_end sections few)

-- an error at which the walk stops, and which is no want of memory, is one of the bytes
own_error : (bytes : List ℕ) (error : CatalogueError) → error ≢ OutOfMemory → (reads_catalogue bytes).stops error → IsCatalogueError bytes error
own_error bytes (Fault fault) caused stops = stops
own_error bytes (NotAcyclic cycle) caused stops = stops
own_error bytes OutOfMemory caused stops = absurd (caused refl)

pub catalogue_or_own_error : (bytes : List ℕ) → HasOneOf (IsCatalogueOf bytes) (IsOwnError bytes)
catalogue_or_own_error bytes = elim (catalogue_ends bytes) [
  | inl (catalogue, goes, any) ↦ inl (catalogue, goes)
  | inr (error, caused, stops) ↦ inr (error, (caused, own_error bytes error caused stops))
]

pub catalogue_or_error : (bytes : List ℕ) → HasCatalogueOrError bytes
catalogue_or_error bytes = by (catalogue_or_own_error bytes)
  where
    by : HasOneOf (IsCatalogueOf bytes) (IsOwnError bytes) → HasCatalogueOrError bytes
    by (inl (catalogue, is)) = inl (catalogue, is)
    by (inr (Fault fault, (caused, error))) = inr (inl (fault, error))
    by (inr (NotAcyclic cycle, (caused, error))) = inr (inr (cycle, error))
    by (inr (OutOfMemory, (caused, error))) = absurd (caused refl)
