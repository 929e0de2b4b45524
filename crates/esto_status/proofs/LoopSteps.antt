-- A loop over items, each of which is a step of a command.
use Rattle.std.proofs.Common.{◌≡◌, ◌<◌, ◌≤◌, ◌+◌, ℕ, suc, List, [], ◌∷◌, ◌++◌, drop, length, get_or, Option, Ok, Err, refl}
use Rattle.esto_course.specs.Course.{Course, IsQuiet, Names, Stops, gives, and_then, each}
use Rattle.esto_course.specs.Course.Point.{underway}
use Rattle.esto_course.proofs.Asking.{LeadsAsking, asks_itself, each_asks_end, each_asks_next, each_stop_asks, each_way_asks, first_way_asks, quiet_gives}
use Rattle.esto_course.proofs.Asking.{quiet_then}
use Rattle.esto_course.proofs.Steps.{Leads, each_goes, each_next, each_stops, gives_goes, leads_itself}
use Rattle.esto_ports.specs.Asked.{AsksFor}
use Rattle.esto_status.specs.Answers.{IsCaused, IsWant}
use Rattle.esto_status.specs.Asked.{AsksIn, AsksToStop}
use Rattle.esto_status.specs.Asked.AsksToStop.{stopping, wanting}
use Rattle.esto_status.specs.declared.status.Status.{Status}
use Rattle.esto_status.specs.declared.status.Status.TheVariants.{OutOfMemory}
use Rattle.esto_status.proofs.AskedSteps.{ends_after, later_asks, quiet_asks, told_both, told_nothing}

-- a step that keeps what another went on with asks for what the other asks for
pub kept_asks : {A B : Type 0} {before after : Option Names} (first : Course Status A) (keep : A → B) (value : A) → AsksIn before after first (Ok value)
    → AsksIn before after (and_then first (λ it. gives (keep it))) (Ok (keep value))
kept_asks {after = after} first keep value asks =
    later_asks first (λ it. gives (keep it)) asks
    (quiet_asks (gives (keep value)) after (Ok (keep value)) (quiet_gives Status (keep value)) (gives_goes Status (keep value) (keep value) refl))

-- after the first items, so many: what they gave, with which the course goes on, and the names that came to those that were asked for
pub record IsAlong {A B : Type 0} (step : ℕ → B → A → Course Status B) (items : List A) (to : Course Status B) (before : Option Names) (index : ℕ) (given : B)
    (now : Option Names) : Type 0 where
  pub counter : ℕ
  pub leads : Leads (each step counter given (drop index items)) to
  pub names : Names
  pub told : AsksFor before now names
  pub asking : LeadsAsking names (each step counter given (drop index items)) to

module _ {A B : Type 0} (step : ℕ → B → A → Course Status B) where
  -- before the first step, where each has a moment before it asks for anything
  pub each_way : (items : List A) (number : ℕ) (given : B) → ((count : ℕ) (so_far : B) (item : A) → (step count so_far item).asks [] underway)
      → (each step number given items).asks [] underway
  each_way [] number given way = (quiet_gives Status given).underway
  each_way (item ∷ items) number given way =
      first_way_asks (step number given item) (λ next. each step (suc number) next items) [] (way number given item)

  -- a loop of steps that ask for nothing
  pub quiet_each : ((count : ℕ) (so_far : B) (item : A) → IsQuiet (step count so_far item)) → (number : ℕ) (given : B) (items : List A)
      → IsQuiet (each step number given items)
  quiet_each quiet number given [] = quiet_gives Status given
  quiet_each quiet number given (item ∷ items) =
      quiet_then (step number given item) (λ next. each step (suc number) next items) (quiet number given item)
      (λ next. quiet_each quiet (suc number) next items)

  module _ (items : List A) (to : Course Status B) (before : Option Names) where
    module _ (index : ℕ) (given : B) (now : Option Names) (along : IsAlong step items to before index given now) where
      module _ (item : A) (below : index < length items) (is : item ≡ get_or items index item) where
        -- the step of the item goes on
        pub along_goes : (next : B) (later : Option Names) → (step along.counter given item).goes next
            → AsksIn now later (step along.counter given item) (Ok next)
            → IsAlong step items to before (index + 1) next later
        along_goes next later goes asked = record {
          counter = suc along.counter;
          leads = each_next step items to along.counter index given along.leads item below is next goes;
          names = along.names ++ asked.names;
          told = told_both before now later along.names asked.names along.told asked.told;
          asking = each_asks_next step items to along.counter index given along.names along.asking item below is asked.names next asked.asks;
        }

        -- it stops
        pub along_stops : {rose : Type 0} {refusal : Status} → Stops IsWant (IsCaused rose) (step along.counter given item) refusal
            → Stops IsWant (IsCaused rose) to refusal
        along_stops stops = each_stops step items to along.counter index given along.leads item below is stops

        stop_at : (names : Names) (refusal : Status) → AsksToStop (step along.counter given item) names refusal
            → AsksToStop to (along.names ++ names) refusal
        stop_at names refusal (wanting want asks) =
            wanting want (each_way_asks step items to along.counter index given along.names along.asking item below is names asks)
        stop_at names refusal (stopping isnt asks ends) = stopping isnt
            (each_stop_asks step items to along.counter index given along.names along.asking item below is names refusal asks)
            (ends_after refusal along.names names ends)

        pub along_stop_asks : (later : Option Names) (refusal : Status) → AsksIn now later (step along.counter given item) (Err refusal)
            → AsksIn before later to (Err refusal)
        along_stop_asks later refusal asked = record {
          names = along.names ++ asked.names;
          told = told_both before now later along.names asked.names along.told asked.told;
          asks = stop_at asked.names refusal asked.asks;
        }

      -- no item is left
      pub along_ends : length items ≤ index → to.goes given
      along_ends le = each_goes step items to along.counter index given along.leads le

      pub along_end_asks : length items ≤ index → AsksIn before now to (Ok given)
      along_end_asks le = record {
        names = along.names;
        told = along.told;
        asks = each_asks_end step items to along.counter index given along.names along.asking le;
      }

      -- want of memory, before the next step asks for anything
      pub along_wants : ((count : ℕ) (so_far : B) (item : A) → (step count so_far item).asks [] underway) → AsksIn before now to (Err OutOfMemory)
      along_wants way = record {
        names = along.names ++ [];
        told = told_both before now now along.names [] along.told (told_nothing now);
        asks = wanting refl (along.asking.asks [] underway (each_way (drop index items) along.counter given way));
      }

  pub along_starts : (items : List A) (given : B) (before : Option Names) → IsAlong step items (each step 0 given items) before 0 given before
  along_starts items given before = record {
    counter = 0;
    leads = leads_itself (each step 0 given items);
    names = [];
    told = told_nothing before;
    asking = asks_itself (each step 0 given items);
  }
