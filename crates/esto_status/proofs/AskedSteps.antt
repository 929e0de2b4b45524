-- What a command asks for follows from what its steps ask for.
use Rattle.std.proofs.Common.{◌≡◌, ◌⊎◌, ℕ, List, [], ◌∷◌, ◌++◌, Option, Some, None, Result, Ok, Err, inl, inr, refl, sym, ap, subst, ◌∙◌, append-nil}
use Rattle.std.specs.Result.{IsErrAnd}
use Rattle.std.proofs.lemmas.List.{append_assoc}
use Rattle.esto_course.specs.Course.{Course, Names, IsQuiet, judges, and_then}
use Rattle.esto_course.specs.Course.Point.{went, stopped, underway}
use Rattle.esto_course.specs.Course.Stops.{is_free, refused}
use Rattle.esto_course.proofs.Asking.{first_stop_asks, first_way_asks, then_asks, quiet_judges, quiet_gives, quiet_refuses, quiet_demands, quiet_then}
use Rattle.esto_ports.specs.Asked.{Asks, AsksFor}
use Rattle.esto_ports.specs.declared.ports.ShelfError.TheVariants as shelf
use Rattle.esto_status.specs.Answers.{Answers, IsWant}
use Rattle.esto_status.specs.Fetch.{FetchStops, fetches}
use Rattle.esto_status.specs.Fetch.FetchStops.{fails, is_longer}
use Rattle.esto_ports.specs.Files.{Files}
use Rattle.esto_status.specs.Asked.{AsksAt, AsksIn, AsksToStop, EndsAtFault}
use Rattle.esto_status.specs.Asked.AsksToStop.{wanting, stopping}
use Rattle.esto_status.specs.declared.status.Status.{Status}
use Rattle.esto_status.specs.declared.status.Status.TheVariants.{OutOfMemory, ReadFault, TooLong}
use Rattle.esto_status.proofs.Steps.{never_wanting, read_cause}

-- ---- names that come to others

pub told_nothing : (told : Option Names) → AsksFor told told []
told_nothing None = tt
told_nothing (Some old) = ap Some (sym (append-nil old))

pub told_both : (old mid new : Option Names) (early late : Names) → AsksFor old mid early → AsksFor mid new late → AsksFor old new (early ++ late)
told_both None mid new early late one two = tt
told_both (Some old) mid new early late one two =
    subst (λ told. AsksFor told new late) one two ∙ ap (λ (all : Names). Some all) (append_assoc old early late)

pub ends_after : (refusal : Status) (early late : Names) → EndsAtFault refusal late → EndsAtFault refusal (early ++ late)
ends_after refusal early late ends name is =
    let last = ends name is in
    (early ++ last.0, ap (λ (l : Names). early ++ l) last.1 ∙ sym (append_assoc early last.0 (name ∷ [])))

-- ---- steps

module _ {A B : Type 0} (first : Course Status A) (next : A → Course Status B) where
  exit_stops : (names : Names) (refusal : Status) → AsksToStop first names refusal → AsksToStop (and_then first next) names refusal
  exit_stops names refusal (wanting is asks) = wanting is (first_way_asks first next names asks)
  exit_stops names refusal (stopping isnt asks ends) = stopping isnt (first_stop_asks first next names refusal asks) ends

  -- the first step stops
  pub exit_asks : {old new : Option Names} {refusal : Status} → AsksIn old new first (Err refusal) → AsksIn old new (and_then first next) (Err refusal)
  exit_asks {refusal = refusal} asked =
      record { names = asked.names; told = asked.told; asks = exit_stops asked.names refusal asked.asks }

  later_stops_at : (early late : Names) (value : A) (refusal : Status) → first.asks early (went value) → AsksToStop (next value) late refusal
      → AsksToStop (and_then first next) (early ++ late) refusal
  later_stops_at early late value refusal goes (wanting is asks) = wanting is (then_asks first next early late value underway goes asks)
  later_stops_at early late value refusal goes (stopping isnt asks ends) =
      stopping isnt (then_asks first next early late value (stopped refusal) goes asks) (ends_after refusal early late ends)

  later_at : (early late : Names) (value : A) (result : Result B Status) → first.asks early (went value) → AsksAt (next value) late result
      → AsksAt (and_then first next) (early ++ late) result
  later_at early late value (Ok more) goes asks = then_asks first next early late value (went more) goes asks
  later_at early late value (Err refusal) goes asks = later_stops_at early late value refusal goes asks

  -- the first step goes on, and what follows comes to an answer
  pub later_asks : {old mid new : Option Names} {value : A} {result : Result B Status} → AsksIn old mid first (Ok value)
      → AsksIn mid new (next value) result
      → AsksIn old new (and_then first next) result
  later_asks {old = old} {mid = mid} {new = new} {value = value} {result = result} early late = record {
    names = early.names ++ late.names;
    told = told_both old mid new early.names late.names early.told late.told;
    asks = later_at early.names late.names value result early.asks late.asks;
  }

quiet_at : {A : Type 0} (course : Course Status A) (result : Result A Status) → IsQuiet course → Answers course ⊥ result → AsksAt course [] result
quiet_at course (Ok value) quiet goes = quiet.goes value goes
quiet_at course (Err refusal) quiet (is_free want) = wanting want quiet.underway
quiet_at course (Err refusal) quiet (refused because stops) = stopping (λ want. never_wanting ⊥ refusal want because) (quiet.stops refusal stops)
    (λ name is. absurd (read_cause ⊥ refusal name is because))

-- a step that asks for nothing
pub quiet_asks : {A : Type 0} (course : Course Status A) (told : Option Names) (result : Result A Status) → IsQuiet course → Answers course ⊥ result
    → AsksIn told told course result
quiet_asks course told result quiet answer = record { names = []; told = told_nothing told; asks = quiet_at course result quiet answer }

-- want of memory in a step, before it asks for anything
pub early_want : {A : Type 0} (course : Course Status A) (told : Option Names) → course.asks [] underway → AsksIn told told course (Err OutOfMemory)
early_want course told way = record { names = []; told = told_nothing told; asks = wanting refl way }

-- a judgement accepts a value, and asks for nothing
pub accepted : {A : Type 0} (told : Option Names) (accepts : A → Type 0) (refusing : Status → Type 0) (value : A) → accepts value
    → AsksIn told told (judges accepts refusing) (Ok value)
unfolding judges
accepted told accepts refusing value is = quiet_asks (judges accepts refusing) told (Ok value) (quiet_judges accepts refusing) is

-- want of memory in a judgement that is a first step
pub wanted : {A B : Type 0} (told : Option Names) (accepts : A → Type 0) (refusing : Status → Type 0) (next : A → Course Status B)
    → AsksIn told told (and_then (judges accepts refusing) next) (Err OutOfMemory)
wanted told accepts refusing next =
    early_want (and_then (judges accepts refusing) next) told (first_way_asks (judges accepts refusing) next [] (quiet_judges accepts refusing).underway)

-- an error that `?` hands on
pub handed_asks : {A : Type 0} {old new : Option Names} (course : Course Status A) (refusal : Status) (result : Result A Status)
    → IsErrAnd result (λ handed. handed ≡ refusal) → AsksIn old new course (Err refusal)
    → AsksIn old new course result
handed_asks course refusal (Ok value) handed asks = absurd handed
handed_asks {old = old} {new = new} course refusal (Err handed_on) handed asks =
    subst (λ (said : Status). AsksIn old new course (Err said)) (sym handed) asks

-- the steps of a command, for the search
pub ruleset asked_steps = (handed_asks, exit_asks, later_asks, quiet_asks, quiet_judges, quiet_gives, quiet_refuses, quiet_demands, quiet_then)

-- ---- a fetch

-- the name came, where the fetch was answered
pub told_file : (old new : Option Names) (name file : List ℕ) → Asks old new name (Ok file) → AsksFor old new (name ∷ [])
told_file None new name file asks = tt
told_file (Some old) new name file asks = asks

pub told_failed : (old new : Option Names) (name : List ℕ) → Asks old new name (Err shelf.Failed) → AsksFor old new (name ∷ [])
told_failed None new name asks = tt
told_failed (Some old) new name asks = asks

pub told_longer : (old new : Option Names) (name : List ℕ) (read : ℕ) → Asks old new name (Err (shelf.TooLong read)) → AsksFor old new (name ∷ [])
told_longer None new name read asks = tt
told_longer (Some old) new name read asks = asks

-- where memory was wanting, it came or not
pub told_wanting : (old new : Option Names) (name : List ℕ) → Asks old new name (Err shelf.OutOfMemory)
    → AsksFor old new (name ∷ []) ⊎ AsksFor old new []
told_wanting None new name asks = inl tt
told_wanting (Some old) new name asks = asks

fault_wants : (name : List ℕ) → ReadFault name ≡ OutOfMemory → ⊥
fault_wants name is = cc

longer_wants : (name : List ℕ) (limit : ℕ) → TooLong name limit ≡ OutOfMemory → ⊥
longer_wants name limit is = cc

longer_faults : (name : List ℕ) (limit : ℕ) (other : List ℕ) → TooLong name limit ≡ ReadFault other → ⊥
longer_faults name limit other is = cc

one_fault : (name other : List ℕ) → ReadFault name ≡ ReadFault other → name ≡ other
one_fault name other is = cc

module _ (files : Option Files) (name : List ℕ) (limit : ℕ) (old new : Option Names) where
  -- the file is fetched
  pub fetch_goes : (bytes : List ℕ) → AsksFor old new (name ∷ []) → (fetches files name limit).goes bytes
      → AsksIn old new (fetches files name limit) (Ok bytes)
  unfolding fetches
  fetch_goes bytes told goes = record { names = name ∷ []; told = told; asks = (goes, refl) }

  -- memory is wanting after the fetch
  pub fetch_wants : AsksFor old new (name ∷ []) → AsksIn old new (fetches files name limit) (Err OutOfMemory)
  unfolding fetches
  fetch_wants told = record { names = name ∷ []; told = told; asks = wanting refl (inr refl) }

  -- memory is wanting in the fetch
  pub fetch_wanting : AsksFor old new (name ∷ []) ⊎ AsksFor old new [] → AsksIn old new (fetches files name limit) (Err OutOfMemory)
  unfolding fetches
  fetch_wanting told = elim told [ inl came ↦ fetch_wants came | inr stays ↦ record { names = []; told = stays; asks = wanting refl (inl refl) } ]

  fault_last : (refusal : Status) → FetchStops files name limit refusal → EndsAtFault refusal (name ∷ [])
  fault_last refusal (fails is) other is_other = ([], ap (λ (n : List ℕ). n ∷ []) (one_fault name other (sym is ∙ is_other)))
  fault_last refusal (is_longer file holds longer is) other is_other = absurd (longer_faults name limit other (sym is ∙ is_other))

  not_want : (refusal : Status) → FetchStops files name limit refusal → IsWant refusal → ⊥
  not_want refusal (fails is) want = fault_wants name (sym is ∙ want)
  not_want refusal (is_longer file holds longer is) want = longer_wants name limit (sym is ∙ want)

  -- the fetch is at a fault, or the file is too long
  pub fetch_refuses : (refusal : Status) → AsksFor old new (name ∷ []) → FetchStops files name limit refusal
      → AsksIn old new (fetches files name limit) (Err refusal)
  unfolding fetches
  fetch_refuses refusal told stops =
      record { names = name ∷ []; told = told; asks = stopping (not_want refusal stops) (stops, refl) (fault_last refusal stops) }
