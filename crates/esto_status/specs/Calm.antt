-- Courses over files that are told, where no fetch is at a fault.
use Rattle.std.specs.Prelude.{◌≡◌, ℕ, List}
use Rattle.esto_course.specs.Agreement.{Agree}
use Rattle.esto_course.specs.Course.{Course}
use Rattle.esto_status.specs.Answers.{IsCaused}
use Rattle.esto_status.specs.Line.{line_of}
use Rattle.esto_status.specs.declared.reply.Reply.{Reply}
use Rattle.esto_status.specs.declared.reply.Reply.TheVariants.{Done}
use Rattle.esto_status.specs.declared.status.Status.{Status}
use Rattle.esto_status.specs.declared.status.Status.TheVariants as status

-- The course goes on only with values of which the one fact holds, and stops only with statuses of which the other does.
pub record Leads {A : Type 0} (course : Course Status A) (Fact : A → Type 0) (Refusal : Status → Type 0) : Type 0 where
  pub goes : (value : A) → course.goes value → Fact value
  pub stops : (status : Status) → IsCaused ⊥ status → course.stops status → Refusal status

-- The courses go on with what counts as the same, or stop with one status.
abbrev pub AgreeCalmly : {A : Type 0} → (A → A → Type 0) → Course Status A → Course Status A → Type 0
AgreeCalmly Same course other = Agree (IsCaused ⊥) Same course other

-- The course over the files agrees with itself: it has one reply or one refusal.
abbrev pub IsOne : Course Status Reply → Type 0
IsOne course = AgreeCalmly ◌≡◌ course course

-- The fact holds of each reply, which is Done with a text, and of each refusal with its line.
abbrev pub SaysAlways : Course Status Reply → (Status → List ℕ → Type 0) → Type 0
SaysAlways course Fact = Leads course (λ reply. (text : List ℕ) × (reply ≡ Done text) × Fact status.Done text) (λ said. Fact said (line_of said))
