-- The command `explain`.
use Rattle.std.specs.Prelude.{ℕ, List, Option}
use Rattle.esto_course.specs.Course.{Course}
use Rattle.esto_ports.specs.Files.{Files}
use Rattle.esto_rewriting.specs.Explain.{explains_query}
use Rattle.esto_status.specs.declared.reply.Reply.{Reply}
use Rattle.esto_status.specs.declared.status.Status.{Status}
use Rattle.esto_top.specs.Over.{over_catalogue, over_query}

-- The catalogue is fetched and read, then the query, and a certificate is written.
abbrev pub explain_course : Option Files → List ℕ → List ℕ → ℕ → Course Status Reply
explain_course files catalogue_name query_name number =
    over_catalogue files catalogue_name (λ catalogue. over_query files query_name catalogue (explains_query number catalogue))
