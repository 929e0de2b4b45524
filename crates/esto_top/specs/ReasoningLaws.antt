-- What laws on the courses of the commands on queries say.
use Rattle.std.specs.Prelude.{ℕ, List, Some}
use Rattle.esto_mapping.specs.declared.catalogue.Catalogue.{Catalogue}
use Rattle.esto_status.specs.Calm.{IsOne, SaysAlways}
use Rattle.esto_opening.specs.Opening.{opens_catalogue, opens_query}
use Rattle.esto_ports.specs.Files.{Files}
use Rattle.esto_query.specs.declared.query.Query.{Query}
use Rattle.esto_top.specs.Contains.{contains_course}
use Rattle.esto_reasoning.specs.Exact.{IsExactContains, IsExactMinimise}
use Rattle.esto_top.specs.Minimise.{minimise_course}

-- ---- one outcome

-- The course of `contains` over the same files has one reply or one refusal, where no fetch is at a fault.
abbrev pub ContainsIsOne : Type 0
ContainsIsOne = (files : Files) (catalogue_name left_name right_name : List ℕ) → IsOne (contains_course (Some files) catalogue_name left_name right_name)

-- So has the course of `minimise`.
abbrev pub MinimiseIsOne : Type 0
MinimiseIsOne = (files : Files) (catalogue_name query_name : List ℕ) → IsOne (minimise_course (Some files) catalogue_name query_name)

-- ---- which outcome

-- What is told of two queries is exact, for each catalogue and for the queries over it that the files say.
abbrev pub ContainsIsExact : Type 0
ContainsIsExact =
    (files : Files) (catalogue_name left_name right_name : List ℕ) (catalogue : Catalogue) (left right : Query)
    → (opens_catalogue (Some files) catalogue_name).goes catalogue → (opens_query (Some files) left_name catalogue).goes left
    → (opens_query (Some files) right_name catalogue).goes right
    → SaysAlways (contains_course (Some files) catalogue_name left_name right_name) (IsExactContains catalogue left right)

-- So is what a query is minimised to.
abbrev pub MinimiseIsExact : Type 0
MinimiseIsExact =
    (files : Files) (catalogue_name query_name : List ℕ) (catalogue : Catalogue) (query : Query)
    → (opens_catalogue (Some files) catalogue_name).goes catalogue → (opens_query (Some files) query_name catalogue).goes query
    → SaysAlways (minimise_course (Some files) catalogue_name query_name) (IsExactMinimise catalogue query)
