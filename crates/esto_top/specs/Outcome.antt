-- What the program answers to a command line.
use Rattle.std.specs.Prelude.{◌≡◌, ◌≢◌, ◌⊎◌, ℕ, List, take, Option, Some, Result, Ok, Err}
use Rattle.std.specs.Io.KnownBytes.{Appends, Keeps}
use Rattle.esto_ports.specs.Asked.{CountGoes, CountStays}
use Rattle.esto_ports.specs.Files.{Files}
use Rattle.esto_ports.specs.declared.ports.SinkError.{SinkError}
use Rattle.esto_ports.specs.declared.ports.SinkError.TheVariants as sink
use Rattle.esto_status.specs.Line.{line_of}
use Rattle.esto_course.specs.Course.{Course}
use Rattle.esto_status.specs.Answers.{IsCaused}
use Rattle.esto_status.specs.Replies.{reply_status, reply_text}
use Rattle.esto_top.specs.Call.{Call, HasPut, HoldsOfPut, WantsMemory, WhereTold}
use Rattle.esto_top.specs.Grammar.{course_of}
use Rattle.esto_status.specs.declared.reply.Reply.{Reply}
use Rattle.esto_status.specs.declared.status.Status.{Status}
use Rattle.esto_status.specs.declared.status.Status.TheVariants as status

-- A course says a status and the text that is put with it: a reply's, or a refusal's line.
pub data Says (course : Course Status Reply) (rose : Type 0) (status : Status) (text : List ℕ) : Type 0 where
  replies : (reply : Reply) → course.goes reply → status ≡ reply_status reply → text ≡ reply_text reply → Says course rose status text
  refuses : IsCaused rose status → course.stops status → text ≡ line_of status → Says course rose status text

-- The status and the text are an outcome of a command line over these files, where no fetch is at a fault.
abbrev pub Outcome : List (List ℕ) → Files → Status → List ℕ → Type 0
Outcome words files status text = Says (course_of words (Some files)) ⊥ status text

-- The whole text was put; or a prefix of it was, at a fault of the sink; or memory was refused, and nothing was put.
pub data Mediates (course : Course Status Reply) (call : Call) : Type 0 where
  whole : (text : List ℕ) → Says course call.shelf_rose call.status text → HasPut call text → Mediates course call
  cut : (said : Status) (text : List ℕ) (kept : ℕ) → Says course call.shelf_rose said text → call.sink_rose → HasPut call (take kept text)
      → call.status ≡ status.WriteFault → Mediates course call
  memory : WantsMemory call → Mediates course call

-- An answer of a command says a status and a text.
abbrev pub IsSaid : Result Reply Status → Status → List ℕ → Type 0
IsSaid (Ok reply) said text = (said ≡ reply_status reply) × (text ≡ reply_text reply)
IsSaid (Err refusal) said text = (said ≡ refusal) × (text ≡ line_of refusal) × (refusal ≢ status.OutOfMemory)

-- The one put of an answer.
pub data Finishes (answer : Result Reply Status) (old new : Option (List ℕ)) (sink_rose : Type 0) (result : Status) : Type 0 where
  whole : (text : List ℕ) → IsSaid answer result text → Appends old new text → Finishes answer old new sink_rose result
  cut : (said : Status) (text : List ℕ) (kept : ℕ) → IsSaid answer said text → sink_rose → Appends old new (take kept text) → result ≡ status.WriteFault
      → Finishes answer old new sink_rose result
  memory : Keeps old new → result ≡ status.OutOfMemory → Finishes answer old new sink_rose result

-- The status of an error of the sink: a write fault, or want of memory.
abbrev pub status_of_error : SinkError → Status
status_of_error sink.Failed = status.WriteFault
status_of_error sink.OutOfMemory = status.OutOfMemory

-- One put was counted, where puts are told; where memory is wanting it may be none.
abbrev pub PutsOnce : Option ℕ → Option ℕ → Status → Type 0
PutsOnce old new result = CountGoes old new ⊎ ((result ≡ status.OutOfMemory) × CountStays old new)

-- Where the shelf tells its files, and neither count rose, the answer is an outcome of the words and the files with its whole text, or want of memory and
-- nothing.
abbrev pub CompleteWhereTold : Call → Type 0
CompleteWhereTold call = WhereTold call (λ files. HoldsOfPut (Outcome call.words files) call)

-- A read fault: the count rose, the command fetches that file with no earlier refusal, and its line was put.
abbrev pub CausedReadFault : Course Status Reply → Call → Type 0
CausedReadFault course call =
    (name : List ℕ) → call.status ≡ status.ReadFault name
    → call.shelf_rose × course.stops (status.ReadFault name) × HasPut call (line_of (status.ReadFault name))

-- A write fault: the count rose, and a prefix of what was to be put was put.
abbrev pub CausedWriteFault : Course Status Reply → Call → Type 0
CausedWriteFault course call =
    call.status ≡ status.WriteFault
    → call.sink_rose × ((said : Status) × (text : List ℕ) × (kept : ℕ) × Says course call.shelf_rose said text × HasPut call (take kept text))
