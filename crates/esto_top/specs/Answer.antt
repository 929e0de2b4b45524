-- The command `answer`.
use Rattle.std.specs.Prelude.{ℕ, List, Option}
use Rattle.esto_course.specs.Course.{Course}
use Rattle.esto_data.specs.Answer.{answers_union}
use Rattle.esto_ports.specs.Files.{Files}
use Rattle.esto_status.specs.declared.reply.Reply.{Reply}
use Rattle.esto_status.specs.declared.status.Status.{Status}
use Rattle.esto_top.specs.Over.{over_catalogue, over_union}

-- The catalogue is fetched and read, then the union of queries, and it is answered.
abbrev pub answer_course : Option Files → List ℕ → List ℕ → Course Status Reply
answer_course files catalogue_name query_name =
    over_catalogue files catalogue_name (λ catalogue. over_union files query_name catalogue (answers_union files catalogue))
