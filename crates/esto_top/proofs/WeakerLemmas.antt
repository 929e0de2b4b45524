-- What a course says, one says that asks less of its values.
use Rattle.std.proofs.Common.{inl, inr, ℕ, List, Option, Result, Ok, Err}
use Rattle.esto_course.specs.Course.{AsksLater, Course, Names, Point, and_then, asks_nothing, judges}
use Rattle.esto_course.specs.Course.Point.{went, stopped, missing, underway}
use Rattle.esto_course.specs.Course.Stops.{is_free, refused}
use Rattle.esto_status.specs.Answers.{Answers}
use Rattle.esto_status.specs.Asked.{AsksAt, AsksIn}
use Rattle.esto_status.specs.Asked.AsksToStop.{wanting, stopping}
use Rattle.esto_status.specs.declared.status.Status.{Status}
use Rattle.esto_ports.specs.Files.{Files}
use Rattle.esto_data.specs.Fill.{IsFilled, IsMade}
use Rattle.esto_top.specs.Fill.{fill_course, make_course}

-- whatever the one course does, the other does
pub record IsWeaker {A : Type 0} (course weaker : Course Status A) : Type 0 where
  pub goes : (value : A) → course.goes value → weaker.goes value
  pub stops : (refusal : Status) → course.stops refusal → weaker.stops refusal
  pub asks : (names : Names) (point : Point Status A) → course.asks names point → weaker.asks names point

pub weaker_itself : {A : Type 0} (course : Course Status A) → IsWeaker course course
weaker_itself course = record { goes = λ value goes. goes; stops = λ refusal stops. stops; asks = λ names point asks. asks }

judges_weaker : {A : Type 0} (Accepts Others : A → Type 0) (Refuses : Status → Type 0) → ((value : A) → Accepts value → Others value)
    → IsWeaker (judges Accepts Refuses) (judges Others Refuses)
unfolding judges
judges_weaker {A} Accepts Others Refuses less = record { goes = less; stops = λ refusal stops. stops; asks = at }
  where
    at : (names : Names) (point : Point Status A) → asks_nothing Accepts Refuses names point → asks_nothing Others Refuses names point
    at names (went value) (accepted, is) = (less value accepted, is)
    at names (stopped refusal) asks = asks
    at names missing asks = asks
    at names underway asks = asks

module _ {A B : Type 0} (first : Course Status A) (next others : A → Course Status B) (weaker : (value : A) → IsWeaker (next value) (others value)) where
  later : (names : Names) (point : Point Status B) → AsksLater first next names point → AsksLater first others names point
  later names point asks = record {
    value = asks.value;
    early = asks.early;
    late = asks.late;
    first_asks = asks.first_asks;
    next_asks = (weaker asks.value).asks asks.late point asks.next_asks;
    all = asks.all;
  }

  -- what follows asks less
  then_weaker : IsWeaker (and_then first next) (and_then first others)
  unfolding and_then
  then_weaker = record {
    goes = λ result (value, goes, more). (value, goes, (weaker value).goes result more);
    stops = λ refusal stops. elim stops [
      | inl here ↦ inl here
      | inr (value, goes, more) ↦ inr (value, goes, (weaker value).stops refusal more)
    ];
    asks = at;
  }
    where
      at : (names : Names) (point : Point Status B) → (and_then first next).asks names point → (and_then first others).asks names point
      at names (went result) asks = later names (went result) asks
      at names (stopped refusal) (inl here) = inl here
      at names (stopped refusal) (inr more) = inr (later names (stopped refusal) more)
      at names missing (inl here) = inl here
      at names missing (inr more) = inr (later names missing more)
      at names underway (inl here) = inl here
      at names underway (inr more) = inr (later names underway more)

-- the first step asks less
first_weaker : {A B : Type 0} (first other : Course Status A) (next : A → Course Status B) → IsWeaker first other
    → IsWeaker (and_then first next) (and_then other next)
unfolding and_then
first_weaker {A} {B} first other next weaker = record {
  goes = λ result (value, goes, more). (value, weaker.goes value goes, more);
  stops = λ refusal stops. elim stops [
    | inl here ↦ inl (weaker.stops refusal here)
    | inr (value, goes, more) ↦ inr (value, weaker.goes value goes, more)
  ];
  asks = at;
}
  where
    more : (names : Names) (point : Point Status B) → AsksLater first next names point → AsksLater other next names point
    more names point asks = record {
      value = asks.value;
      early = asks.early;
      late = asks.late;
      first_asks = weaker.asks asks.early (went asks.value) asks.first_asks;
      next_asks = asks.next_asks;
      all = asks.all;
    }

    at : (names : Names) (point : Point Status B) → (and_then first next).asks names point → (and_then other next).asks names point
    at names (went result) asks = more names (went result) asks
    at names (stopped refusal) (inl here) = inl (weaker.asks names (stopped refusal) here)
    at names (stopped refusal) (inr later) = inr (more names (stopped refusal) later)
    at names missing (inl here) = inl (weaker.asks names missing here)
    at names missing (inr later) = inr (more names missing later)
    at names underway (inl here) = inl (weaker.asks names underway here)
    at names underway (inr later) = inr (more names underway later)

-- ---- answers

module _ {A : Type 0} (course other : Course Status A) (weaker : IsWeaker course other) where
  pub answers_weaker : (rose : Type 0) (result : Result A Status) → Answers course rose result → Answers other rose result
  answers_weaker rose (Ok value) goes = weaker.goes value goes
  answers_weaker rose (Err refusal) (is_free is) = is_free is
  answers_weaker rose (Err refusal) (refused caused stops) = refused caused (weaker.stops refusal stops)

  asks_at_weaker : (names : Names) (result : Result A Status) → AsksAt course names result → AsksAt other names result
  asks_at_weaker names (Ok value) asks = weaker.asks names (went value) asks
  asks_at_weaker names (Err refusal) (wanting is asks) = wanting is (weaker.asks names underway asks)
  asks_at_weaker names (Err refusal) (stopping caused asks ends) = stopping caused (weaker.asks names (stopped refusal) asks) ends

  pub asks_weaker : (before after : Option Names) (result : Result A Status) → AsksIn before after course result → AsksIn before after other result
  asks_weaker before after result asks = record { names = asks.names; told = asks.told; asks = asks_at_weaker asks.names result asks.asks }

-- ---- `fill`

-- a file that is filled has a text that is made of its rows
pub fill_weaker : (files : Option Files) (catalogue_name name : List ℕ)
    → IsWeaker (fill_course files catalogue_name name) (make_course files catalogue_name name)
fill_weaker files catalogue_name name =
    then_weaker _ _ _ (λ catalogue.
    then_weaker _ _ _ (λ number.
    then_weaker _ _ _ (λ stored.
    then_weaker _ _ _ (λ facts.
    first_weaker _ _ _ (judges_weaker (IsFilled stored facts) (IsMade stored facts) _ (λ text is. is.filled))))))
