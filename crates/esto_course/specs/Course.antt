-- Courses of steps, in which the order of refusals is the order of the steps.
use Rattle.std.specs.Prelude.{◌≡◌, ◌⊎◌, ℕ, suc, List, [], ◌∷◌, ◌++◌, Result, Ok, Err}
use mathlib.Core.Logic.◌⊎◌.{inl, inr}

-- How far a step has come: it went on with a value, it stopped with an error, the last name that it asked for is of nothing that there is, or it is under way.
pub data Point (E A : Type 0) : Type 0 where
  went : A → Point E A
  stopped : E → Point E A
  missing : Point E A
  underway : Point E A

-- Names of what is asked for outside, in order.
abbrev pub Names : Type 0
Names = List (List ℕ)

-- A course says with which values a step may go on, with which errors it may stop, and for which names it may have asked at a point. It has asked only at
-- values and errors of its own.
pub record Course (E A : Type 0) : Type 1 where
  pub goes : A → Type 0
  pub stops : E → Type 0
  pub asks : Names → Point E A → Type 0
  pub asks_goes : (names : Names) (value : A) → asks names (Point.went value) → goes value
  pub asks_stops : (names : Names) (error : E) → asks names (Point.stopped error) → stops error

-- A step that asks for nothing has asked for nothing at each point that it may come to.
abbrev pub asks_nothing : {E A : Type 0} → (A → Type 0) → (E → Type 0) → Names → Point E A → Type 0
asks_nothing goes stops names (Point.went value) = goes value × (names ≡ [])
asks_nothing goes stops names (Point.stopped error) = stops error × (names ≡ [])
asks_nothing goes stops names Point.missing = ⊥
asks_nothing goes stops names Point.underway = names ≡ []

-- A step that asks for one name has asked for it where it goes on, where it stops and where it lacks what it asked for, and under way for it or for nothing.
abbrev pub asks_once : {E A : Type 0} → List ℕ → (A → Type 0) → (E → Type 0) → Type 0 → Names → Point E A → Type 0
asks_once name goes stops lacks names (Point.went value) = goes value × (names ≡ name ∷ [])
asks_once name goes stops lacks names (Point.stopped error) = stops error × (names ≡ name ∷ [])
asks_once name goes stops lacks names Point.missing = lacks × (names ≡ name ∷ [])
asks_once name goes stops lacks names Point.underway = (names ≡ []) ⊎ (names ≡ name ∷ [])

-- The first step went on with a value and had asked for the names; what follows is at the point, and asked for the others.
pub record AsksLater {E A B : Type 0} (first : Course E A) (next : A → Course E B) (names : Names) (point : Point E B) : Type 0 where
  pub value : A
  pub early : Names
  pub late : Names
  pub first_asks : first.asks early (Point.went value)
  pub next_asks : (next value).asks late point
  pub all : names ≡ early ++ late

-- One step, and then what follows, asked for the names of the step and then for those of what follows.
abbrev pub asks_in_turn : {E A B : Type 0} → Course E A → (A → Course E B) → Names → Point E B → Type 0
asks_in_turn first next names (Point.went result) = AsksLater first next names (Point.went result)
asks_in_turn first next names (Point.stopped error) = first.asks names (Point.stopped error) ⊎ AsksLater first next names (Point.stopped error)
asks_in_turn first next names Point.missing = first.asks names Point.missing ⊎ AsksLater first next names Point.missing
asks_in_turn first next names Point.underway = first.asks names Point.underway ⊎ AsksLater first next names Point.underway

-- A step that asks for nothing, and goes on with these values or stops with these errors.
abbrev pub asking_nothing : {E A : Type 0} → (A → Type 0) → (E → Type 0) → Course E A
asking_nothing goes stops = record {
  goes = goes;
  stops = stops;
  asks = asks_nothing goes stops;
  asks_goes = λ names value asks. asks.0;
  asks_stops = λ names error asks. asks.0;
}

-- A step that asks for one name, and goes on with these values or stops with these errors; the last is said where there is nothing of that name.
abbrev pub asking_once : {E A : Type 0} → List ℕ → (A → Type 0) → (E → Type 0) → Type 0 → Course E A
asking_once name goes stops lacks = record {
  goes = goes;
  stops = stops;
  asks = asks_once name goes stops lacks;
  asks_goes = λ names value asks. asks.0;
  asks_stops = λ names error asks. asks.0;
}

-- A judgement goes on with an accepted value, or stops with an error that refuses.
unfoldable pub judges : {E A : Type 0} → (A → Type 0) → (E → Type 0) → Course E A
judges accepts refuses = asking_nothing accepts refuses

-- It goes on with this value.
unfoldable pub gives : {E A : Type 0} → A → Course E A
gives value = asking_nothing (λ other. other ≡ value) (λ _. ⊥)

-- It stops with this error.
unfoldable pub refuses : {E A : Type 0} → E → Course E A
refuses error = asking_nothing (λ _. ⊥) (λ other. other ≡ error)

-- It goes on exactly where the condition holds, and else stops with this error.
unfoldable pub demands : {E : Type 0} → Type 0 → E → Course E (Unit {0})
demands condition error = asking_nothing (λ _. condition) (λ other. ¬ condition × (other ≡ error))

-- One step, and then what follows, stops with an error at which it has asked.
abbrev pub stops_in_turn : {E A B : Type 0} (first : Course E A) (next : A → Course E B) (names : Names) (error : E)
    → asks_in_turn first next names (Point.stopped error) → first.stops error ⊎ ((value : A) × first.goes value × (next value).stops error)
stops_in_turn first next names error (inl here) = inl (first.asks_stops names error here)
stops_in_turn first next names error (inr later) =
    inr (later.value, first.asks_goes later.early later.value later.first_asks, (next later.value).asks_stops later.late error later.next_asks)

-- One step, and then what follows from its value.
unfoldable pub and_then : {E A B : Type 0} → Course E A → (A → Course E B) → Course E B
and_then {A = A} first next = record {
  goes = λ result. (value : A) × first.goes value × (next value).goes result;
  stops = λ error. first.stops error ⊎ ((value : A) × first.goes value × (next value).stops error);
  asks = asks_in_turn first next;
  asks_goes = λ names result asks.
      (asks.value, first.asks_goes asks.early asks.value asks.first_asks, (next asks.value).asks_goes asks.late result asks.next_asks);
  asks_stops = stops_in_turn first next;
}

-- For each item, in order, one step from what the items before it gave; the items are counted from the number on.
abbrev pub each : {E A B : Type 0} → (ℕ → B → A → Course E B) → ℕ → B → List A → Course E B
each step number given [] = gives given
each step number given (item ∷ items) = and_then (step number given item) (λ next. each step (suc number) next items)

-- An error is a free one, or one with which the course stops; these have a cause.
pub data Stops {E A : Type 0} (free caused : E → Type 0) (course : Course E A) (error : E) : Type 0 where
  is_free : free error → Stops free caused course error
  refused : caused error → course.stops error → Stops free caused course error

-- What a step answers: a value with which the course goes on, or an error that is free or with which the course stops.
abbrev pub Runs : {E A : Type 0} → (E → Type 0) → (E → Type 0) → Course E A → Result A E → Type 0
Runs free caused course (Ok value) = course.goes value
Runs free caused course (Err error) = Stops free caused course error

-- A course asks for nothing: it has asked for nothing at each point that it may come to.
pub record IsQuiet {E A : Type 0} (course : Course E A) : Type 0 where
  pub goes : (value : A) → course.goes value → course.asks [] (Point.went value)
  pub stops : (error : E) → course.stops error → course.asks [] (Point.stopped error)
  pub underway : course.asks [] Point.underway
