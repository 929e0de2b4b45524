-- The command `minimise`.
use Rattle.std.specs.Prelude.{ℕ, List, Option}
use Rattle.esto_course.specs.Course.{Course}
use Rattle.esto_ports.specs.Files.{Files}
use Rattle.esto_reasoning.specs.Minimise.{minimises}
use Rattle.esto_status.specs.declared.reply.Reply.{Reply}
use Rattle.esto_status.specs.declared.status.Status.{Status}
use Rattle.esto_top.specs.Over.{over_catalogue, over_query}

-- The catalogue is fetched and read, then the query, and the text of what it is minimised to is the reply.
abbrev pub minimise_course : Option Files → List ℕ → List ℕ → Course Status Reply
minimise_course files catalogue_name query_name =
    over_catalogue files catalogue_name (λ catalogue. over_query files query_name catalogue (minimises catalogue))
