use Rattle.std.proofs.Common.{refl, subst}
use Rattle.esto_query.specs.Schemas.{arities_of}
use Rattle.esto_read.specs.Readings.{IsReading, IsFirstFault}
use Rattle.esto_read.specs.declared.read.Form.TheVariants as form
use Rattle.esto_course.specs.Course.{judges}
use Rattle.esto_course.specs.Course.Stops.{refused}
use Rattle.esto_opening.proofs.opening.query_of.Goals as goal

pub read_query-requires : goal.read_query-requires
read_query-requires c = record { words = (c.catalogues_are_sound.ensures c.args.catalogue.now).vocabulary }

pub returns-in-Ok : goal.returns-in-Ok
unfolding judges
returns-in-Ok c =
    let catalogue = c.args.catalogue.now in (
      c.in-Ok.field-0,
      subst (λ it. IsReading form.Query catalogue.words
          (arities_of catalogue.schema) it c.in-Ok.field-0) c.bytes.ensures c.in-Ok.ensures.reading,
      refl,
    )

pub returns-in-Err-Fault : goal.returns-in-Err-Fault
unfolding judges
returns-in-Err-Fault c =
    let catalogue = c.args.catalogue.now in
    let first = rw c.in-Err-Fault.field-0-is at c.in-Err-Fault.ensures.error in
    refused (record { cause = tt }) (
      c.in-Err-Fault.fault,
      subst (λ it. IsFirstFault form.Query catalogue.words
          (arities_of catalogue.schema) it c.in-Err-Fault.fault) c.bytes.ensures first,
      refl,
    )
