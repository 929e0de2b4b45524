-- Courses that come to an end.
use Rattle.esto_course.specs.Course.{Course, Names}
use Rattle.esto_course.specs.Course.Point.{went, stopped, missing}
use Rattle.esto_status.specs.Answers.{IsCaused}
use Rattle.esto_status.specs.declared.status.Status.{Status}

-- The course comes to an end: it goes on with a value, or it stops with a status that has its cause though no fetch is at a fault; or, where it may lack a
-- file, it asks for one that is not there.
pub data Ends {A : Type 0} (may_lack : Type 0) (course : Course Status A) : Type 0 where
  goes : (names : Names) (value : A) → course.asks names (went value) → Ends may_lack course
  stops : (names : Names) (refusal : Status) → IsCaused ⊥ refusal → course.asks names (stopped refusal) → Ends may_lack course
  lacks : (names : Names) → may_lack → course.asks names missing → Ends may_lack course

-- The course goes on with a value, or it stops with a status that has its cause.
abbrev pub AlwaysEnds : {A : Type 0} → Course Status A → Type 0
AlwaysEnds course = Ends ⊥ course

-- So it does, or it asks for a file that is not there.
abbrev pub EndsOrLacks : {A : Type 0} → Course Status A → Type 0
EndsOrLacks course = Ends (Unit {0}) course
