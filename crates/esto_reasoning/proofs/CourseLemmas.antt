-- What is told of queries asks for nothing.
use Rattle.esto_mapping.specs.declared.catalogue.Catalogue.{Catalogue}
use Rattle.esto_course.specs.Course.{IsQuiet, and_then}
use Rattle.esto_course.proofs.Asking.{quiet_demands, quiet_judges, quiet_then}
use Rattle.esto_query.specs.declared.query.Query.{Query}
use Rattle.esto_reasoning.specs.Contains.{compares, have_one_length, prints_told, tells_contained}
use Rattle.esto_reasoning.specs.Minimise.{minimises, minimises_query, prints_minimal}

pub compares_quiet : (catalogue : Catalogue) (left right : Query) → IsQuiet (compares catalogue left right)
compares_quiet catalogue left right =
    quiet_then (have_one_length left right) (λ _. and_then (tells_contained catalogue left right) (prints_told catalogue left)) (quiet_demands _ _)
    (λ _. quiet_then (tells_contained catalogue left right) (prints_told catalogue left) (quiet_judges _ _) (λ told. quiet_judges _ _))

pub minimises_quiet : (catalogue : Catalogue) (query : Query) → IsQuiet (minimises catalogue query)
minimises_quiet catalogue query =
    quiet_then (minimises_query catalogue query) (prints_minimal catalogue query) (quiet_judges _ _) (λ minimal. quiet_judges _ _)
