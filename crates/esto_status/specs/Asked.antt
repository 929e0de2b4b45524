-- What a command, or a step of one, asked of the shelf.
use Rattle.std.specs.Prelude.{◌≡◌, ◌⊎◌, ℕ, List, [], ◌∷◌, ◌++◌, Option, Result, Ok, Err}
use Rattle.esto_course.specs.Course.{Course, Names}
use Rattle.esto_course.specs.Course.Point.{went, stopped, missing, underway}
use Rattle.esto_ports.specs.Asked.{AsksFor}
use Rattle.esto_status.specs.Answers.{IsCaused, IsWant}
use Rattle.esto_status.specs.Replies.{reply_status}
use Rattle.esto_status.specs.declared.reply.Reply.{Reply}
use Rattle.esto_status.specs.declared.status.Status.{Status}
use Rattle.esto_status.specs.declared.status.Status.TheVariants.{OutOfMemory, ReadFault, WriteFault}

-- ---- steps

-- The name of a read fault is the last of the names.
abbrev pub EndsAtFault : Status → Names → Type 0
EndsAtFault refusal names = (name : List ℕ) → refusal ≡ ReadFault name → (early : Names) × (names ≡ early ++ name ∷ [])

-- The names for which a course has asked when a status refuses: where memory was wanting, those of some moment under way; else those up to its stop with the
-- status.
pub data AsksToStop {A : Type 0} (course : Course Status A) (names : Names) (refusal : Status) : Type 0 where
  wanting : IsWant refusal → course.asks names underway → AsksToStop course names refusal
  stopping : ¬ (IsWant refusal) → course.asks names (stopped refusal) → EndsAtFault refusal names → AsksToStop course names refusal

-- The names for which a course has asked when it comes to an answer.
abbrev pub AsksAt : {A : Type 0} → Course Status A → Names → Result A Status → Type 0
AsksAt course names (Ok value) = course.asks names (went value)
AsksAt course names (Err refusal) = AsksToStop course names refusal

-- To the names that were asked for, where they are told, came those for which the course asked.
pub record AsksIn {A : Type 0} (old new : Option Names) (course : Course Status A) (result : Result A Status) : Type 0 where
  pub names : Names
  pub told : AsksFor old new names
  pub asks : AsksAt course names result

-- ---- the sequence of fetches

-- The names that a course fetches, in order: up to its end, or up to and with the first that has no file.
pub data Fetches {A : Type 0} (course : Course Status A) (names : Names) : Type 0 where
  to_value : (value : A) → course.asks names (went value) → Fetches course names
  to_refusal : (refusal : Status) → IsCaused ⊥ refusal → course.asks names (stopped refusal) → Fetches course names
  to_lack : course.asks names missing → Fetches course names

-- All names that the course fetches where it ends with the status: those up to a reply of the status, or up to a stop with it.
pub data FetchesToStatus (course : Course Status Reply) (names : Names) (status : Status) : Type 0 where
  by_reply : (reply : Reply) → reply_status reply ≡ status → course.asks names (went reply) → FetchesToStatus course names status
  by_refusal : IsCaused ⊥ status → course.asks names (stopped status) → FetchesToStatus course names status

-- The names up to and with a file at whose fetch the shelf was at a fault.
abbrev pub FetchesToFault : Course Status Reply → Type 0 → Names → List ℕ → Type 0
FetchesToFault course rose names name = rose × course.asks names (stopped (ReadFault name)) × EndsAtFault (ReadFault name) names

-- All names that the course fetches where it ends with some status; or those up to and with a file at whose fetch the shelf was at a fault.
pub data FetchesToAnswer (course : Course Status Reply) (rose : Type 0) (names : Names) : Type 0 where
  whole : (status : Status) → FetchesToStatus course names status → FetchesToAnswer course rose names
  fault : (name : List ℕ) → FetchesToFault course rose names name → FetchesToAnswer course rose names

-- The names that were asked for, by the status. At a read fault they are those up to and with its file; at a write fault those of the answer that was to be
-- put; where memory was wanting those of an answer, or of some moment under way; and at every other status all that the course fetches where it ends with it.
abbrev pub FetchesBy : Course Status Reply → Type 0 → Names → Status → Type 0
FetchesBy course rose names OutOfMemory = FetchesToAnswer course rose names ⊎ course.asks names underway
FetchesBy course rose names (ReadFault name) = FetchesToFault course rose names name
FetchesBy course rose names WriteFault = FetchesToAnswer course rose names
FetchesBy course rose names status = FetchesToStatus course names status

-- To the names that were asked for, where they are told, came those that the status tells of.
abbrev pub AsksAsTold : Option Names → Option Names → Course Status Reply → Type 0 → Status → Type 0
AsksAsTold old new course rose status = (names : Names) × AsksFor old new names × FetchesBy course rose names status
