use Rattle.std.proofs.Common.{ap, refl, subst, ◌∙◌}
use Rattle.esto_query.specs.Schemas.{arities_of}
use Rattle.esto_read.specs.Unions.{IsUnionReading, IsFirstUnionFault}
use Rattle.esto_course.specs.Course.{judges}
use Rattle.esto_course.specs.Course.Stops.{refused}
use Rattle.esto_opening.specs.Opening.{unnamed}
use Rattle.esto_opening.proofs.UnionLemmas.{form_union}
use Rattle.esto_opening.proofs.unions.union_of.Goals as goal

pub read_union-requires : goal.read_union-requires
read_union-requires c = record { words = (c.catalogues_are_sound.ensures c.args.catalogue.now).vocabulary }

pub returns-in_ok-queries-in-Ok-clause-answer : goal.returns-in_ok-queries-in-Ok-clause-answer
unfolding judges
returns-in_ok-queries-in-Ok-clause-answer c =
    let catalogue = c.args.catalogue.now in (
      c.in-Ok.named,
      subst (λ it. IsUnionReading catalogue.words (arities_of catalogue.schema) it c.in-Ok.named) c.bytes.ensures c.in-Ok.ensures.reading,
      c.in_ok-queries-in-Ok.ensures ∙ ap unnamed c.items.ensures,
    )

pub returns-in_ok-queries-in-Ok-clause-union : goal.returns-in_ok-queries-in-Ok-clause-union
returns-in_ok-queries-in-Ok-clause-union c =
    let catalogue = c.args.catalogue.now in
    form_union catalogue.words (arities_of catalogue.schema) c.bytes.result.now c.in-Ok.named c.in_ok-queries-in-Ok.queries c.in-Ok.ensures.reading
    (c.in_ok-queries-in-Ok.ensures ∙ ap unnamed c.items.ensures)

pub returns-in-Err-Fault-clause-answer : goal.returns-in-Err-Fault-clause-answer
unfolding judges
returns-in-Err-Fault-clause-answer c =
    let catalogue = c.args.catalogue.now in
    let first = rw c.in-Err-Fault.field-0-is at c.in-Err-Fault.ensures.error in
    refused (record { cause = tt }) (
      c.in-Err-Fault.fault,
      subst (λ it. IsFirstUnionFault catalogue.words (arities_of catalogue.schema) it c.in-Err-Fault.fault) c.bytes.ensures first,
      (rw c.in-Err-Fault.field-0-is refl),
    )
