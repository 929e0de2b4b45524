-- The command `audit`.
use Rattle.std.specs.Prelude.{ℕ, List, Option}
use Rattle.esto_course.specs.Course.{Course}
use Rattle.esto_data.specs.Audit.{audits_catalogue}
use Rattle.esto_ports.specs.Files.{Files}
use Rattle.esto_status.specs.declared.reply.Reply.{Reply}
use Rattle.esto_status.specs.declared.status.Status.{Status}
use Rattle.esto_top.specs.Over.{over_catalogue}

-- The catalogue is fetched and read, and audited.
abbrev pub audit_course : Option Files → List ℕ → Course Status Reply
audit_course files name = over_catalogue files name (audits_catalogue files)
