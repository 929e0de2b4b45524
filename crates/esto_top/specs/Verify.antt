-- The command `verify`.
use Rattle.std.specs.Prelude.{ℕ, List, Option}
use Rattle.esto_course.specs.Course.{Course}
use Rattle.esto_ports.specs.Files.{Files}
use Rattle.esto_rewriting.specs.Verify.{verifies_query}
use Rattle.esto_status.specs.declared.reply.Reply.{Reply}
use Rattle.esto_status.specs.declared.status.Status.{Status}
use Rattle.esto_top.specs.Over.{over_catalogue, over_query}

-- The catalogue is fetched and read, then the query, and the certificate is verified.
abbrev pub verify_course : Option Files → List ℕ → List ℕ → List ℕ → List ℕ → Course Status Reply
verify_course files catalogue_name query_name numbers file =
    over_catalogue files catalogue_name (λ catalogue. over_query files query_name catalogue (verifies_query files numbers file catalogue))
