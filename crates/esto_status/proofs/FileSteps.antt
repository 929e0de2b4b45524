-- The file of what is found: it is fetched, and its content read.
use Rattle.std.proofs.Common.{ℕ, List, Option, Result, Ok, Err, refl}
use Rattle.esto_course.specs.Course.{Course, IsQuiet, Names, Stops, judges, gives, and_then}
use Rattle.esto_course.proofs.Asking.{quiet_gives, quiet_judges}
use Rattle.esto_course.proofs.Steps.{first_stops, gives_goes, then_goes, then_stops}
use Rattle.esto_ports.specs.Files.{Files}
use Rattle.esto_status.specs.Answers.{IsCaused, IsWant}
use Rattle.esto_status.specs.Asked.{AsksIn}
use Rattle.esto_status.specs.Fetch.{fetches}
use Rattle.esto_status.specs.declared.status.Status.{Status}
use Rattle.esto_status.proofs.AskedSteps.{exit_asks, later_asks, quiet_asks}
use Rattle.esto_status.proofs.Steps.{still_stops}

judged_goes : {A : Type 0} (accepts : A → Type 0) (value : A) → accepts value → (judges {E = Status} accepts (λ _. ⊥)).goes value
unfolding judges
judged_goes accepts value is = is

module _ {X : Type 0} (Found : X → Type 0) (file : X → List ℕ) (limit : ℕ) (reads : X → List ℕ → Course Status (Unit {0})) (files : Option Files) (thing : X)
    (found : Found thing) where
  abbrev reads_on : X → List ℕ → Course Status (List ℕ)
  reads_on it bytes = and_then (reads it bytes) (λ _. gives bytes)

  abbrev opens_its : X → Course Status (List ℕ)
  opens_its it = and_then (fetches files (file it) limit) (reads_on it)

  -- the thing is found, and its file is opened
  abbrev pub opens_found : Course Status (List ℕ)
  opens_found = and_then (judges Found (λ _. ⊥)) opens_its

  found_asks : {before after : Option Names} {result : Result (List ℕ) Status} → AsksIn before after (opens_its thing) result
      → AsksIn before after opens_found result
  found_asks {before = before} asks =
      later_asks (judges Found (λ _. ⊥)) opens_its
      (quiet_asks (judges Found (λ _. ⊥)) before (Ok thing) (quiet_judges Found (λ _. ⊥)) (judged_goes Found thing found)) asks

  found_stops : {rose : Type 0} {refusal : Status} → Stops IsWant (IsCaused rose) (opens_its thing) refusal → Stops IsWant (IsCaused rose) opens_found refusal
  found_stops stops = then_stops (judges Found (λ _. ⊥)) opens_its thing (judged_goes Found thing found) stops

  -- the file is not fetched
  pub unfetched_stops : {rose : Type 0} {refusal : Status} → Stops IsWant (IsCaused rose) (fetches files (file thing) limit) refusal
      → Stops IsWant (IsCaused rose) opens_found refusal
  unfetched_stops stops = found_stops (first_stops (fetches files (file thing) limit) (reads_on thing) stops)

  pub unfetched_asks : {before after : Option Names} {refusal : Status} → AsksIn before after (fetches files (file thing) limit) (Err refusal)
      → AsksIn before after opens_found (Err refusal)
  unfetched_asks asks = found_asks (exit_asks (fetches files (file thing) limit) (reads_on thing) asks)

  module _ (bytes : List ℕ) where
    -- it is fetched, and its content read
    pub opened_goes : (fetches files (file thing) limit).goes bytes → (reads thing bytes).goes tt → opens_found.goes bytes
    opened_goes fetched good =
        then_goes (judges Found (λ _. ⊥)) opens_its thing bytes (judged_goes Found thing found)
        (then_goes (fetches files (file thing) limit) (reads_on thing) bytes bytes fetched
        (then_goes (reads thing bytes) (λ _. gives bytes) tt bytes good (gives_goes Status bytes bytes refl)))

    pub opened_asks : {before after : Option Names} → IsQuiet (reads thing bytes) → AsksIn before after (fetches files (file thing) limit) (Ok bytes)
        → (reads thing bytes).goes tt → AsksIn before after opens_found (Ok bytes)
    opened_asks {after = after} quiet asked good =
        found_asks (later_asks (fetches files (file thing) limit) (reads_on thing) asked (later_asks (reads thing bytes) (λ _. gives bytes)
        (quiet_asks (reads thing bytes) after (Ok tt) quiet good)
        (quiet_asks (gives bytes) after (Ok bytes) (quiet_gives Status bytes) (gives_goes Status bytes bytes refl))))

    -- its content has a fault
    pub unread_stops : {rose : Type 0} {refusal : Status} → (fetches files (file thing) limit).goes bytes
        → Stops IsWant (IsCaused ⊥) (reads thing bytes) refusal
        → Stops IsWant (IsCaused rose) opens_found refusal
    unread_stops fetched stops =
        found_stops (then_stops (fetches files (file thing) limit) (reads_on thing) bytes fetched (still_stops (reads thing bytes) (λ _. gives bytes) stops))

    pub unread_asks : {before after : Option Names} {refusal : Status} → IsQuiet (reads thing bytes)
        → AsksIn before after (fetches files (file thing) limit) (Ok bytes) → Stops IsWant (IsCaused ⊥) (reads thing bytes) refusal
        → AsksIn before after opens_found (Err refusal)
    unread_asks {after = after} {refusal = refusal} quiet asked stops =
        found_asks (later_asks (fetches files (file thing) limit) (reads_on thing) asked (exit_asks (reads thing bytes) (λ _. gives bytes)
        (quiet_asks (reads thing bytes) after (Err refusal) quiet stops)))
