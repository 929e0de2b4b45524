-- Sections that fit.
use Rattle.std.proofs.Common.{◌≡◌, ◌<◌, ◌≤◌, ℕ, Bool, List, Option, Some, None, codes, Result, Ok, Err, length, refl, subst, sym, arith}
use Rattle.esto_course.specs.Course.{Course, Stops, and_then, demands, gives, refuses}
use Rattle.esto_course.proofs.Steps.{first_stops, then_goes, gives_goes}
use Rattle.esto_catalog.proofs.RowLemmas.{regroup, demands_goes, demands_stops, refuses_stops}
use Rattle.esto_catalog.specs.Rows.{IsAny, IsFault, IsWant, Walks, fault_at, top}
use Rattle.esto_catalog.specs.Whole.{fits_section, fits_sections, reads_top, tables_of}
use Rattle.esto_catalog.specs.declared.fault.CatalogueError.{CatalogueError}
use Rattle.esto_status.specs.declared.fault.CatalogueKind.TheVariants.{TooMany, WrongType}
use Rattle.esto_catalog.specs.declared.whole.TheConstants.{MAX_ENTRIES}
use Rattle.esto_settings.specs.declared.setting.Document.{Document}
use Rattle.esto_settings.specs.declared.setting.Field.{Field}
use Rattle.esto_text.specs.declared.version.Version.{Version}

module _ (key : List ℕ) (section : Option (List (List Field))) where
  pub section_goes : (tables : List (List Field)) → section ≡ Some tables → length tables ≤ MAX_ENTRIES → (fits_section key section).goes tt
  section_goes tables is few =
      subst (λ (s : Option (List (List Field))). (fits_section key s).goes tt) (sym is)
      (demands_goes (length tables ≤ MAX_ENTRIES) (fault_at TooMany top key) tt few)

  pub section_stops : (tables : List (List Field)) (error : CatalogueError) → section ≡ Some tables → 256 < length tables
      → IsFault (fault_at TooMany top key) error → Stops IsWant IsAny (fits_section key section) error
  section_stops tables error is many fault =
      subst (λ (s : Option (List (List Field))). Stops IsWant IsAny (fits_section key s) error) (sym is)
      (demands_stops (length tables ≤ MAX_ENTRIES) (fault_at TooMany top key) error (λ few. absurd (omega arith)) fault)

  pub section_absent : (error : CatalogueError) → section ≡ None → IsFault (fault_at WrongType top key) error
      → Stops IsWant IsAny (fits_section key section) error
  section_absent error is fault =
      subst (λ (s : Option (List (List Field))). Stops IsWant IsAny (fits_section key s) error) (sym is) (refuses_stops _ _ error fault)

section_few : (key : List ℕ) (section : Option (List (List Field))) (unit : Unit {0}) → (fits_section key section).goes unit
    → length (tables_of section) ≤ MAX_ENTRIES
unfolding demands refuses
section_few key None unit goes = absurd goes
section_few key (Some tables) unit few = few

pub datasets_few : (document : Document) (version : Version) (core : Bool) → (reads_top document).goes (version, core)
    → length (tables_of document.datasets) ≤ MAX_ENTRIES
unfolding and_then
datasets_few document version core (unit, known, (version', at, (core', asked, (fits, few, rest)))) =
    section_few (codes "dataset") document.datasets fits few

-- the rows of the sections as one step, and then the version and whether the core is asked for
module _ (document : Document) (version : Version) (core : Bool) where
  abbrev after_core : Course CatalogueError (Version × Bool)
  after_core =
      and_then (fits_section (codes "dataset") document.datasets) (λ _.
      and_then (fits_section (codes "fragment") document.fragments) (λ _.
      and_then (fits_section (codes "constraint") document.constraints) (λ _.
      gives (version, core))))

  three_steps : (result : Result (Version × Bool) CatalogueError) → Walks (and_then (fits_sections document) (λ _. gives (version, core))) result
      → Walks after_core result
  three_steps result walks =
      regroup (fits_section (codes "dataset") document.datasets) (λ _. fits_section (codes "fragment") document.fragments)
      (λ _. and_then (fits_section (codes "constraint") document.constraints) (λ _. gives (version, core))) result
      (regroup (and_then (fits_section (codes "dataset") document.datasets) (λ _. fits_section (codes "fragment") document.fragments))
      (λ _. fits_section (codes "constraint") document.constraints) (λ _. gives (version, core)) result walks)

  pub sections_go : (unit : Unit {0}) → (fits_sections document).goes unit → after_core.goes (version, core)
  sections_go unit goes = three_steps (Ok (version, core)) (then_goes _ _ unit (version, core) goes (gives_goes _ _ _ refl))

  pub sections_stop : (error : CatalogueError) → Stops IsWant IsAny (fits_sections document) error → Stops IsWant IsAny after_core error
  sections_stop error stops = three_steps (Err error) (first_stops _ _ stops)
