-- The status of a catalogue that is not read.
use Rattle.std.proofs.Common.{◌≡◌, ℕ, List, refl, subst}
use Rattle.esto_catalog.specs.Reading.{IsCatalogueError}
use Rattle.esto_catalog.specs.declared.fault.CatalogueError.{CatalogueError}
use Rattle.esto_catalog.specs.declared.fault.CatalogueError.TheVariants as error
use Rattle.esto_course.specs.Course.{Stops, judges}
use Rattle.esto_course.specs.Course.Stops.{is_free, refused}
use Rattle.esto_opening.specs.Opening.{status_of, reads_catalogue}
use Rattle.esto_status.specs.declared.status.Status.{Status}
use Rattle.esto_status.specs.Answers.{IsWant, IsCaused}

pub error_stops : (bytes same : List ℕ) (cause : CatalogueError) (said : Status) → same ≡ bytes → IsCatalogueError same cause → said ≡ status_of cause
    → Stops IsWant (IsCaused ⊥) (reads_catalogue bytes) said
unfolding judges
error_stops bytes same (error.Fault fault) said is is_error said_is = rw said_is
    (refused (record { cause = tt }) (error.Fault fault, subst (λ it. IsCatalogueError it (error.Fault fault)) is is_error, refl))
error_stops bytes same (error.NotAcyclic cycle) said is is_error said_is =
    rw said_is (refused (record { cause = tt }) (error.NotAcyclic cycle, subst (λ it. IsCatalogueError it (error.NotAcyclic cycle)) is is_error, refl))
error_stops bytes same error.OutOfMemory said is is_error said_is = is_free said_is
