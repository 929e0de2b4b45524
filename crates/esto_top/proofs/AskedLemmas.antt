-- What a command line asked of the shelf, and how often it put.
use Rattle.std.proofs.Common.{◌≡◌, ◌⊎◌, ℕ, List, Option, Some, None, Result, Ok, Err, inl, inr, refl, sym, subst}
use Rattle.esto_course.specs.Course.{Course, Names}
use Rattle.esto_course.specs.Course.Point.{went, stopped, underway}
use Rattle.esto_course.specs.Course.Stops.{is_free, refused}
use Rattle.esto_course.proofs.Asking.{quiet_refuses}
use Rattle.esto_ports.specs.Asked.{CountGoes, CountStays, CountsOne}
use Rattle.esto_ports.specs.Files.{Files}
use Rattle.esto_ports.specs.declared.ports.SinkError.TheVariants as sink
use Rattle.esto_status.specs.Answers.{Answers, IsCaused, IsWant}
use Rattle.esto_status.specs.Asked.{AsksAt, AsksIn, EndsAtFault, FetchesBy, FetchesToAnswer}
use Rattle.esto_status.specs.Asked.AsksToStop.{wanting, stopping}
use Rattle.esto_status.specs.Asked.FetchesToStatus.{by_reply, by_refusal}
use Rattle.esto_status.specs.Asked.FetchesToAnswer.{whole as all_fetched, fault as fetched_to_fault}
use Rattle.esto_status.specs.declared.reply.Reply.{Reply}
use Rattle.esto_status.specs.declared.reply.Reply.TheVariants as reply
use Rattle.esto_status.specs.declared.status.Status.{Status}
use Rattle.esto_status.specs.declared.status.Status.TheVariants.{OutOfMemory, ReadFault, Usage, WriteFault}
use Rattle.esto_status.proofs.AskedSteps.{quiet_asks}
use Rattle.esto_top.specs.Call.{AsksAlong, Call}
use Rattle.esto_top.specs.Grammar.{Request, course_of_asked}
use Rattle.esto_status.specs.Replies.{reply_status}
use Rattle.esto_top.specs.Outcome.{Finishes, PutsOnce}
use Rattle.esto_top.specs.Outcome.Finishes.{whole, cut, memory}
use Rattle.esto_top.proofs.Mediation.{FinishesCall, refused_by}

-- ---- the names

module _ (course : Course Status Reply) (rose : Type 0) (names : Names) where
  -- the names of a reply
  replied : (reply : Reply) → course.asks names (went reply) → FetchesBy course rose names (reply_status reply)
  replied (reply.Done text) asks = by_reply (reply.Done text) refl asks
  replied (reply.Unsatisfiable clash text) asks = by_reply (reply.Unsatisfiable clash text) refl asks

  -- the names of a refusal
  told_refusal : (refusal : Status) → ¬ (IsWant refusal) → IsCaused rose refusal → course.asks names (stopped refusal) → EndsAtFault refusal names
      → FetchesBy course rose names refusal
  told_refusal OutOfMemory isnt caused asks ends = absurd (isnt refl)
  told_refusal (ReadFault name) isnt caused asks ends = (caused.cause, asks, ends)
  told_refusal WriteFault isnt caused asks ends = absurd caused.cause
  told_refusal refusal isnt caused asks ends = by_refusal (record { cause = tt }) asks

  any_refusal : (refusal : Status) → ¬ (IsWant refusal) → IsCaused rose refusal → course.asks names (stopped refusal) → EndsAtFault refusal names
      → FetchesToAnswer course rose names
  any_refusal OutOfMemory isnt caused asks ends = absurd (isnt refl)
  any_refusal (ReadFault name) isnt caused asks ends = fetched_to_fault name (caused.cause, asks, ends)
  any_refusal WriteFault isnt caused asks ends = absurd caused.cause
  any_refusal refusal isnt caused asks ends = all_fetched refusal (by_refusal (record { cause = tt }) asks)

  -- the names of an answer, or of some moment under way
  answered : (answer : Result Reply Status) → Answers course rose answer → AsksAt course names answer
      → FetchesToAnswer course rose names ⊎ course.asks names underway
  answered (Ok reply) goes asks = inl (all_fetched (reply_status reply) (by_reply reply refl asks))
  answered (Err refusal) stops (wanting want asks) = inr asks
  answered (Err refusal) (is_free want) (stopping isnt asks ends) = absurd (isnt want)
  answered (Err refusal) (refused caused stops) (stopping isnt asks ends) = inl (any_refusal refusal isnt caused asks ends)

  module _ (old new : Option (List ℕ)) (sink_rose : Type 0) (result : Status) where
    finished : (answer : Result Reply Status) → Answers course rose answer → AsksAt course names answer → Finishes answer old new sink_rose result
        → FetchesBy course rose names result
    finished (Ok reply) goes asks (whole text is appends) = subst (FetchesBy course rose names) (sym is.0) (replied reply asks)
    finished (Err refusal) (is_free want) asks (whole text is appends) = absurd (is.2 want)
    finished (Err refusal) (refused caused stops) (wanting want asks) (whole text is appends) = absurd (is.2 want)
    finished (Err refusal) (refused caused stops) (stopping isnt asks ends) (whole text is appends) =
        subst (FetchesBy course rose names) (sym is.0) (told_refusal refusal isnt caused asks ends)
    finished (Ok reply) goes asks (cut said text kept is risen appends e) =
        subst (FetchesBy course rose names) (sym e) (all_fetched (reply_status reply) (by_reply reply refl asks))
    finished (Err refusal) (is_free want) asks (cut said text kept is risen appends e) = absurd (is.2 want)
    finished (Err refusal) (refused caused stops) (wanting want asks) (cut said text kept is risen appends e) = absurd (is.2 want)
    finished (Err refusal) (refused caused stops) (stopping isnt asks ends) (cut said text kept is risen appends e) =
        subst (FetchesBy course rose names) (sym e) (any_refusal refusal isnt caused asks ends)
    finished answer answers asks (memory keeps e) = subst (FetchesBy course rose names) (sym e) (answered answer answers asks)

pub asks_along : (course : Course Status Reply) (call : Call) (answer : Result Reply Status) → Answers course call.shelf_rose answer
    → AsksIn call.asked_before call.asked_after course answer → FinishesCall answer call → AsksAlong course call
asks_along course call answer answers asked finishes = (
  asked.names,
  asked.told,
  finished course call.shelf_rose asked.names call.written_before call.written_after call.sink_rose call.status answer answers asked.asks finishes,
)

-- words outside the grammar ask for nothing
pub usage_asks : (files : Option Files) (told : Option Names) (request : Option Request) → request ≡ None
    → AsksIn told told (course_of_asked files request) (Err Usage)
usage_asks files told request e =
    subst (λ it. AsksIn told told (course_of_asked files it) (Err Usage)) (sym e)
    (quiet_asks _ told (Err Usage) (quiet_refuses Reply Usage) (refused_by ⊥ Usage (record { cause = tt })))

-- ---- the puts

module _ (old new : Option ℕ) where
  goes : (result : Status) → CountGoes old new → PutsOnce old new result
  goes result counts = inl counts

  pub puts_whole : (result : Status) → CountsOne old new (Ok tt) → PutsOnce old new result
  puts_whole result counts = goes result (whole_goes old new counts)
    where
      whole_goes : (old new : Option ℕ) → CountsOne old new (Ok tt) → CountGoes old new
      whole_goes None new counts = tt
      whole_goes (Some old) new counts = counts

  pub puts_failed : (result : Status) → CountsOne old new (Err sink.Failed) → PutsOnce old new result
  puts_failed result counts = goes result (failed_goes old new counts)
    where
      failed_goes : (old new : Option ℕ) → CountsOne old new (Err sink.Failed) → CountGoes old new
      failed_goes None new counts = tt
      failed_goes (Some old) new counts = counts

-- where memory is wanting before the put there is none
pub puts_none : (told : Option ℕ) → PutsOnce told told OutOfMemory
puts_none told = inr (refl, stays told)
  where
    stays : (told : Option ℕ) → CountStays told told
    stays None = tt
    stays (Some count) = refl
