-- A call of the program: what it was given, and what came of it.
use Rattle.std.specs.Prelude.{◌≡◌, ◌⊎◌, ℕ, List, Option, IfSome}
use Rattle.std.specs.Io.KnownBytes.{Appends, Keeps}
use Rattle.esto_course.specs.Course.{Course, Names}
use Rattle.esto_ports.specs.Files.{Files}
use Rattle.esto_status.specs.Asked.{AsksAsTold}
use Rattle.esto_status.specs.declared.reply.Reply.{Reply}
use Rattle.esto_status.specs.declared.status.Status.{Status}
use Rattle.esto_status.specs.declared.status.Status.TheVariants as status

-- The words; the shelf's files, where it tells them; that the shelf's count of faults rose, and that the sink's did; the names that were asked for before the
-- call and after it, where the shelf tells them; what was written before it and after it, where the sink tells it; and the status.
pub record Call : Type 1 where
  pub words : List (List ℕ)
  pub files : Option Files
  pub shelf_rose : Type 0
  pub sink_rose : Type 0
  pub asked_before : Option Names
  pub asked_after : Option Names
  pub written_before : Option (List ℕ)
  pub written_after : Option (List ℕ)
  pub status : Status

-- Where the shelf tells its files, and neither count rose, the fact holds of the files.
abbrev pub WhereTold : Call → (Files → Type 0) → Type 0
WhereTold call Fact = IfSome call.files (λ files. ¬ call.shelf_rose → ¬ call.sink_rose → Fact files)

-- The text was put.
abbrev pub HasPut : Call → List ℕ → Type 0
HasPut call text = Appends call.written_before call.written_after text

-- Memory was refused, and nothing was put.
abbrev pub WantsMemory : Call → Type 0
WantsMemory call = (call.status ≡ status.OutOfMemory) × Keeps call.written_before call.written_after

-- The fact holds of the status and of a text that was put; or memory was refused, and nothing was put.
abbrev pub HoldsOfPut : (Status → List ℕ → Type 0) → Call → Type 0
HoldsOfPut Fact call = ((text : List ℕ) × Fact call.status text × HasPut call text) ⊎ WantsMemory call

-- To the names that were asked for, where they are told, came those that the course fetches where it ends with the status.
abbrev pub AsksAlong : Course Status Reply → Call → Type 0
AsksAlong course call = AsksAsTold call.asked_before call.asked_after course call.shelf_rose call.status
