-- What is opened before a command goes on: its catalogue, and over it a query or a union of queries.
use Rattle.std.specs.Prelude.{ℕ, List, Option}
use Rattle.esto_course.specs.Course.{Course, gives, and_then}
use Rattle.esto_mapping.specs.declared.catalogue.Catalogue.{Catalogue}
use Rattle.esto_opening.specs.Opening.{opens_catalogue, opens_query, opens_union}
use Rattle.esto_ports.specs.Files.{Files}
use Rattle.esto_query.specs.declared.query.Query.{Query}
use Rattle.esto_status.specs.declared.reply.Reply.{Reply}
use Rattle.esto_status.specs.declared.reply.Reply.TheVariants.{Done}
use Rattle.esto_status.specs.declared.status.Status.{Status}

-- The catalogue is fetched and read, and the command goes on with it.
abbrev pub over_catalogue : Option Files → List ℕ → (Catalogue → Course Status Reply) → Course Status Reply
over_catalogue files name next = and_then (opens_catalogue files name) next

-- The query is fetched and read, and the text of what is told of it is the reply.
abbrev pub over_query : Option Files → List ℕ → Catalogue → (Query → Course Status (List ℕ)) → Course Status Reply
over_query files name catalogue texts =
    and_then (opens_query files name catalogue) (λ query.
    and_then (texts query) (λ text.
    gives (Done text)))

-- The queries are fetched and read, and the command goes on with them.
abbrev pub over_union : Option Files → List ℕ → Catalogue → (List Query → Course Status Reply) → Course Status Reply
over_union files name catalogue next = and_then (opens_union files name catalogue) next
