-- The status and the text of a reply.
use Rattle.std.specs.Prelude.{ℕ, List}
use Rattle.esto_status.specs.declared.reply.Reply.{Reply}
use Rattle.esto_status.specs.declared.reply.Reply.TheVariants as reply
use Rattle.esto_status.specs.declared.status.Status.{Status}
use Rattle.esto_status.specs.declared.status.Status.TheVariants as status

-- The status of a reply.
abbrev pub reply_status : Reply → Status
reply_status (reply.Done text) = status.Done
reply_status (reply.Unsatisfiable clash text) = status.Unsatisfiable clash

-- The text of a reply.
abbrev pub reply_text : Reply → List ℕ
reply_text (reply.Done text) = text
reply_text (reply.Unsatisfiable clash text) = text
