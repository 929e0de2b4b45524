-- How a command's answer follows from the answers of its steps.
use Rattle.std.proofs.Common.{◌≡◌, ◌≤◌, ◌<◌, ◌⊎◌, ℕ, List, Result, Ok, Err, inl, inr, subst, arith}
use Rattle.esto_course.specs.Course.{Course, Stops, and_then}
use Rattle.esto_course.proofs.Steps.{caused_more, first_stops, then_stops, then_goes, gives_goes, at_exit}
use Rattle.esto_ports.specs.Faults.{Rose}
use Rattle.esto_status.specs.Answers.{Answers, IsWant, Cause, IsCaused}
use Rattle.esto_status.specs.declared.status.Status.{Status}
use Rattle.esto_status.specs.declared.status.Status.TheVariants.{OutOfMemory, ReadFault, WriteFault}

below_or_same : (n m : ℕ) → n ≤ m → (n < m) ⊎ (n ≡ m)
below_or_same n m le = grind arith

-- a count that rose in a part of a call rose in the call
pub rose_within : (before before' now' now : ℕ) → before ≤ before' → before' ≤ now' → now' ≤ now → Rose before' now' → Rose before now
rose_within before before' now' now first inner last (inl less) = inl (omega arith)
rose_within before before' now' now first inner last (inr is_last) =
    elim (below_or_same before now (omega arith)) [ inl less ↦ inl less | inr same ↦ inr (omega (arith, is_last, same)) ]

-- a cause stays one where more counts as a rise
cause_weaker : {rose rose' : Type 0} → (rose → rose') → (status : Status) → Cause rose status → Cause rose' status
cause_weaker weaker (ReadFault name) cause = weaker cause
cause_weaker weaker WriteFault cause = cause
cause_weaker weaker OutOfMemory cause = cause
cause_weaker weaker _ cause = tt

pub caused_weaker : {rose rose' : Type 0} → (rose → rose') → (status : Status) → IsCaused rose status → IsCaused rose' status
caused_weaker weaker status caused = record { cause = cause_weaker weaker status caused.cause }

-- want of memory has no cause
pub never_wanting : (rose : Type 0) (status : Status) → status ≡ OutOfMemory → IsCaused rose status → ⊥
never_wanting rose status is caused = subst (Cause rose) is caused.cause

-- the cause of a read fault is that the count rose
pub read_cause : (rose : Type 0) (status : Status) (name : List ℕ) → status ≡ ReadFault name → IsCaused rose status → rose
read_cause rose status name is caused = subst (Cause rose) is caused.cause

-- no course stops with a write fault
pub never_write : (rose : Type 0) (status : Status) → status ≡ WriteFault → IsCaused rose status → ⊥
never_write rose status is caused = subst (Cause rose) is caused.cause

module _ {A B : Type 0} (first : Course Status A) (next : A → Course Status B) where
  -- the first step stops, and the count rose in it
  pub rose_stops : (before before' now' now : ℕ) {status : Status} → Stops IsWant (IsCaused (Rose before' now')) first status → before ≤ before'
      → before' ≤ now' → now' ≤ now
      → Stops IsWant (IsCaused (Rose before now)) (and_then first next) status
  rose_stops before before' now' now stops early inner late = first_stops first next
      (caused_more first _ (caused_weaker (rose_within before before' now' now early inner late)) stops)

  -- the first step, which fetches nothing, stops
  pub still_stops : {rose : Type 0} {status : Status} → Stops IsWant (IsCaused ⊥) first status → Stops IsWant (IsCaused rose) (and_then first next) status
  still_stops stops = first_stops first next (caused_more first _ (caused_weaker (λ none. absurd none)) stops)

  -- the first step goes on, and what follows stops
  pub later_stops : {rose : Type 0} {status : Status} (value : A) → first.goes value → Stops IsWant (IsCaused rose) (next value) status
      → Stops IsWant (IsCaused rose) (and_then first next) status
  later_stops value goes stops = then_stops first next value goes stops

-- the last step, which fetches nothing, stops
pub last_stops : {A : Type 0} {course : Course Status A} {rose : Type 0} {status : Status} → Stops IsWant (IsCaused ⊥) course status
    → Stops IsWant (IsCaused rose) course status
last_stops stops = caused_more _ _ (caused_weaker (λ none. absurd none)) stops

-- the last step stops, and the count rose in it
pub end_stops : {A : Type 0} {course : Course Status A} (before before' now' now : ℕ) {status : Status}
    → Stops IsWant (IsCaused (Rose before' now')) course status → before ≤ before' → before' ≤ now' → now' ≤ now
    → Stops IsWant (IsCaused (Rose before now)) course status
end_stops {course = course} before before' now' now stops early inner late =
    caused_more course _ (caused_weaker (rose_within before before' now' now early inner late)) stops

-- a first step goes on, and what follows, which fetches nothing, answers
pub then_answers_still : {A B : Type 0} (first : Course Status A) (next : A → Course Status B) (rose : Type 0) (value : A) (result : Result B Status)
    → first.goes value → Answers (next value) ⊥ result → Answers (and_then first next) rose result
then_answers_still first next rose value (Ok given) goes answer = then_goes first next value given goes answer
then_answers_still first next rose value (Err status) goes stops = then_stops first next value goes (last_stops stops)

-- a first step, which fetches nothing, goes on, and what follows answers
pub next_answers : {A B : Type 0} (first : Course Status A) (next : A → Course Status B) (rose : Type 0) (value : A) (result : Result B Status)
    → first.goes value → Answers (next value) rose result → Answers (and_then first next) rose result
next_answers first next rose value (Ok given) goes answer = then_goes first next value given goes answer
next_answers first next rose value (Err status) goes stops = then_stops first next value goes stops

-- a first step goes on, and what follows answers
pub then_answers : {A B : Type 0} (first : Course Status A) (next : A → Course Status B) (before mid now : ℕ) (value : A) (result : Result B Status)
    → first.goes value → before ≤ mid → mid ≤ now → Answers (next value) (Rose mid now) result → Answers (and_then first next) (Rose before now) result
then_answers first next before mid now value (Ok given) goes early late answer = then_goes first next value given goes answer
then_answers first next before mid now value (Err status) goes early late stops =
    then_stops first next value goes (end_stops before mid now now stops early late (omega arith))

-- a command that fetches nothing
pub answers_still : {A : Type 0} (course : Course Status A) (rose : Type 0) (result : Result A Status) → Answers course ⊥ result → Answers course rose result
answers_still course rose (Ok value) goes = goes
answers_still course rose (Err status) stops = last_stops stops

-- the steps of a command, for the search
pub ruleset steps = (at_exit, rose_stops, still_stops, last_stops, later_stops, then_goes, gives_goes)

-- and of one whose last step fetches
pub ruleset run_steps = (at_exit, rose_stops, still_stops, end_stops, later_stops, then_goes, gives_goes)
