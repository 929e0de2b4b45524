use Rattle.std.proofs.Common.{subst}
use Rattle.esto_catalog.specs.Reading.{IsCatalogueOf}
use Rattle.esto_course.specs.Course.{judges}
use Rattle.esto_opening.proofs.OpeningLemmas.{error_stops}
use Rattle.esto_opening.proofs.opening.catalogue_of.Goals as goal

pub returns-in-Ok : goal.returns-in-Ok
unfolding judges
returns-in-Ok c = subst (λ it. IsCatalogueOf it c.in-Ok.catalogue) c.bytes.ensures c.in-Ok.ensures.reading

pub returns-in-Err : goal.returns-in-Err
returns-in-Err c = error_stops _ _ _ _ c.bytes.ensures c.in-Err.ensures.error c.status_of.ensures
