-- The command `list`.
use Rattle.std.specs.Prelude.{ℕ, List, [], ◌∷◌, Option}
use Rattle.esto_mapping.specs.declared.catalogue.Catalogue.{Catalogue}
use Rattle.esto_rewriting.specs.List.{lists_union}
use Rattle.esto_ports.specs.Files.{Files}
use Rattle.esto_query.specs.declared.query.Query.{Query}
use Rattle.esto_views.specs.declared.plan.Plan.{Plan}
use Rattle.esto_course.specs.Course.{Course, judges, gives, and_then}
use Rattle.esto_rewriting.specs.Planning.{plans_query}
use Rattle.esto_status.specs.declared.reply.Reply.{Reply}
use Rattle.esto_status.specs.declared.reply.Reply.TheVariants.{Done}
use Rattle.esto_status.specs.declared.status.Status.{Status}
use Rattle.esto_rewriting.specs.Listing.{IsListing}
use Rattle.esto_top.specs.Over.{over_catalogue, over_union}

-- The text of the plan's list is made.
abbrev pub prints_list : Catalogue → Query → Plan → Course Status (List ℕ)
prints_list catalogue query plan = judges (IsListing catalogue query plan) (λ _. ⊥)

-- The query has a plan, and the text of its list is made.
abbrev pub lists_query : Catalogue → Query → Course Status (List ℕ)
lists_query catalogue query = and_then (plans_query catalogue query) (prints_list catalogue query)

-- Of one query the text of its list is made, and of more queries that of their union.
abbrev pub lists_queries : Catalogue → List Query → Course Status (List ℕ)
lists_queries catalogue (query ∷ []) = lists_query catalogue query
lists_queries catalogue queries = lists_union catalogue queries

-- The text of the queries' list is the reply.
abbrev pub prints_queries : Catalogue → List Query → Course Status Reply
prints_queries catalogue queries = and_then (lists_queries catalogue queries) (λ text. gives (Done text))

-- The catalogue is fetched and read, then the queries, and the text of their list is the reply.
abbrev pub list_course : Option Files → List ℕ → List ℕ → Course Status Reply
list_course files catalogue_name query_name =
    over_catalogue files catalogue_name (λ catalogue. over_union files query_name catalogue (prints_queries catalogue))
