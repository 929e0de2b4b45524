-- What a command, or a step of one, may answer, where its course says with which values it goes on and with which
-- statuses it stops.
use Rattle.std.specs.Prelude.{◌≡◌, Result}
use Rattle.esto_course.specs.Course.{Course, Runs}
use Rattle.esto_status.specs.declared.status.Status.{Status}
use Rattle.esto_status.specs.declared.status.Status.TheVariants.{OutOfMemory, ReadFault, WriteFault}

-- Want of memory, the one free answer.
abbrev pub IsWant : Status → Type 0
IsWant status = status ≡ OutOfMemory

-- What the cause of a status is: of a read fault, that the shelf's count rose. A write fault has none in a course, and want of memory, which needs none, is
-- told apart; every other status is its own cause.
abbrev pub Cause : Type 0 → Status → Type 0
Cause rose (ReadFault name) = rose
Cause rose WriteFault = ⊥
Cause rose OutOfMemory = ⊥
Cause rose _ = Unit {0}

-- The status has its cause.
pub record IsCaused (rose : Type 0) (status : Status) : Type 0 where
  pub cause : Cause rose status

-- The answer is a value with which the course goes on, or a status with which it stops and that has its cause, or want of memory.
abbrev pub Answers : {A : Type 0} → Course Status A → Type 0 → Result A Status → Type 0
Answers course rose result = Runs IsWant (IsCaused rose) course result
