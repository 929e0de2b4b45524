-- Courses that agree.
use Rattle.std.specs.Prelude.{◌≡◌, ◌++◌}
use Rattle.esto_course.specs.Course.{Course, Names, Point}
use Rattle.esto_course.specs.Course.Point.{went, stopped, missing, underway}

-- A point is an end: the step went on, it lacks what it asked for, or it stopped with an error that has a cause.
abbrev pub IsEnd : {E A : Type 0} → (E → Type 0) → Point E A → Type 0
IsEnd caused (went value) = Unit {0}
IsEnd caused (stopped error) = caused error
IsEnd caused missing = Unit {0}
IsEnd caused underway = ⊥

-- The list begins with the names.
abbrev pub Begins : Names → Names → Type 0
Begins names list = (rest : Names) × (list ≡ names ++ rest)

-- Two courses ask for the same names up to their ends, each asks at any point for names with which the other's begin, and neither goes on where the other lacks
-- what it asked for.
pub record AskAlike {E A : Type 0} (caused : E → Type 0) (course other : Course E A) : Type 0 where
  pub one : (names others : Names) (end other_end : Point E A) → IsEnd caused end → IsEnd caused other_end → course.asks names end
      → other.asks others other_end → names ≡ others
  pub begins : (names all : Names) (point end : Point E A) → IsEnd caused end → course.asks names point → other.asks all end → Begins names all
  pub other_begins : (names all : Names) (point end : Point E A) → IsEnd caused end → other.asks names point → course.asks all end → Begins names all
  pub lacks : (names others : Names) (value : A) → course.asks names missing → other.asks others (went value) → ⊥
  pub other_lacks : (names others : Names) (value : A) → other.asks names missing → course.asks others (went value) → ⊥

-- Two courses go on with what counts as the same, or stop with one error, and ask for the same names; of errors, those that have a cause are looked at.
pub record Agree {E A : Type 0} (caused : E → Type 0) (Same : A → A → Type 0) (course other : Course E A) : Type 0 where
  pub one : (value other_value : A) → course.goes value → other.goes other_value → Same value other_value
  pub one_stop : (error other_error : E) → caused error → caused other_error → course.stops error → other.stops other_error → error ≡ other_error
  pub apart : (value : A) (error : E) → caused error → course.goes value → other.stops error → ⊥
  pub other_apart : (value : A) (error : E) → caused error → other.goes value → course.stops error → ⊥
  pub alike : AskAlike caused course other

-- The course goes on with one value, up to what counts as the same, or stops with one error.
abbrev pub IsDeterminedUpTo : {E A : Type 0} → (A → A → Type 0) → Course E A → Type 0
IsDeterminedUpTo Same course = Agree (λ _. Unit {0}) Same course course

-- It goes on with one value, or stops with one error.
abbrev pub IsDetermined : {E A : Type 0} → Course E A → Type 0
IsDetermined course = IsDeterminedUpTo ◌≡◌ course
