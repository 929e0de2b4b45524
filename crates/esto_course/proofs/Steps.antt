-- How the course of a chain of steps follows from the courses of its steps.
use Rattle.std.proofs.Common.{◌≡◌, ◌<◌, ◌≤◌, ◌+◌, ℕ, suc, List, ◌∷◌, length, drop, get_or, drop-cons, add-one, Result, Ok, Err, inl, inr, refl, sym, ap, subst}
use Rattle.std.proofs.Common.{arith}
use Rattle.std.specs.Result.{IsErrAnd}
use Rattle.std.proofs.lemmas.List.{drop_all}
use Rattle.esto_course.specs.Course.{Course, gives, and_then, each, Stops, Runs}
use Rattle.esto_course.specs.Course.Stops.{is_free, refused}

module _ {E : Type 0} {free caused : E → Type 0} where
  -- an error of one course is one of another that stops with as many
  pub stops_more : {A B : Type 0} (from : Course E A) (to : Course E B) → ((error : E) → from.stops error → to.stops error) → (error : E)
      → Stops free caused from error → Stops free caused to error
  stops_more from to wider error (is_free is) = is_free is
  stops_more from to wider error (refused because stops) = refused because (wider error stops)

  -- an error that has a cause in a part of a call has one in the call
  pub caused_more : {wider : E → Type 0} {A : Type 0} (course : Course E A) (error : E) → ((it : E) → caused it → wider it) → Stops free caused course error
      → Stops free wider course error
  caused_more course error more (is_free is) = is_free is
  caused_more course error more (refused because stops) = refused (more error because) stops

  -- an error that `?` hands on
  pub at_exit : {A : Type 0} (course : Course E A) (error : E) (result : Result A E) → IsErrAnd result (λ handed. handed ≡ error)
      → Stops free caused course error → Runs free caused course result
  at_exit course error (Ok value) handed stops = absurd handed
  at_exit course error (Err handed_on) handed stops = rw handed stops

module _ {E A B : Type 0} (first : Course E A) (next : A → Course E B) where
  -- the first step stops
  pub first_stops : {free caused : E → Type 0} {error : E} → Stops free caused first error → Stops free caused (and_then first next) error
  unfolding and_then
  first_stops (is_free is) = is_free is
  first_stops (refused because stops) = refused because (inl stops)

  -- the first step goes on, and what follows stops
  pub then_stops : {free caused : E → Type 0} {error : E} (value : A) → first.goes value → Stops free caused (next value) error
      → Stops free caused (and_then first next) error
  unfolding and_then
  then_stops value goes (is_free is) = is_free is
  then_stops value goes (refused because stops) = refused because (inr (value, goes, stops))

  -- the first step goes on, and so does what follows
  pub then_goes : (value : A) (result : B) → first.goes value → (next value).goes result → (and_then first next).goes result
  unfolding and_then
  then_goes value result goes more = (value, goes, more)

pub gives_goes : (E : Type 0) {A : Type 0} (value other : A) → other ≡ value → (gives {E = E} value).goes other
unfolding gives
gives_goes E value other is = is

-- the steps of a chain, for the search
pub ruleset steps = (at_exit, first_stops, then_stops, then_goes, gives_goes)

-- whatever the one course does, the other does
pub record Leads {E A : Type 0} (from to : Course E A) : Type 0 where
  pub goes : (value : A) → from.goes value → to.goes value
  pub stops : (error : E) → from.stops error → to.stops error

pub leads_itself : {E A : Type 0} (course : Course E A) → Leads course course
leads_itself course = record { goes = λ value goes. goes; stops = λ error stops. stops }

-- what follows a value leads where the two steps lead
pub leads_next : {E A B : Type 0} (first : Course E A) (next : A → Course E B) (to : Course E B) (value : A) → Leads (and_then first next) to
    → first.goes value → Leads (next value) to
unfolding and_then
leads_next first next to value leads goes = record {
  goes = λ result more. leads.goes result (value, goes, more);
  stops = λ error stops. leads.stops error (inr (value, goes, stops));
}

-- the item at a place, and those after it
pub items_left : {A : Type 0} (items : List A) (place : ℕ) (item : A) → place < length items → item ≡ get_or items place item
    → drop place items ≡ item ∷ drop (place + 1) items
items_left {A} items place item below is = rw (drop-cons items place item, add-one) (ap (λ (first : A). first ∷ drop (suc place) items) (sym is))

-- a turn of a loop over items, of which those at and after a place are left
module _ {E A B : Type 0} (step : ℕ → B → A → Course E B) (items : List A) (to : Course E B) where
  module _ (number place : ℕ) (given : B) (leads : Leads (each step number given (drop place items)) to) where
    module _ (item : A) (below : place < length items) (is : item ≡ get_or items place item) where
      at_item : Leads (and_then (step number given item) (λ next. each step (suc number) next (drop (place + 1) items))) to
      at_item = let P : List A → Type 0 = λ left. Leads (each step number given left) to in subst P (items_left items place item below is) leads

      -- the step of the item goes on
      pub each_next : (next : B) → (step number given item).goes next → Leads (each step (suc number) next (drop (place + 1) items)) to
      each_next next goes = leads_next _ _ to next at_item goes

      -- the step of the item stops
      pub each_stops : {free caused : E → Type 0} {error : E} → Stops free caused (step number given item) error → Stops free caused to error
      each_stops {error = error} stops = stops_more _ to at_item.stops error (first_stops _ _ stops)

    -- no item is left
    pub each_goes : length items ≤ place → to.goes given
    each_goes le =
        let P : List A → Type 0 = λ left. Leads (each step number given left) to in
        (subst P (drop_all place items le) leads).goes given (gives_goes E given given refl)

-- a turn of a loop over items that are counted from 1
module _ {E A B : Type 0} (step : ℕ → B → A → Course E B) (items : List A) (to : Course E B) (index : ℕ) (given : B)
    (leads : Leads (each step (suc index) given (drop index items)) to) where
  module _ (item : A) (below : index < length items) (is : item ≡ get_or items index item) where
    pub turn_next : (next : B) → (step (index + 1) given item).goes next → Leads (each step (suc (index + 1)) next (drop (index + 1) items)) to
    turn_next next goes =
        let one : index + 1 ≡ suc index = omega arith in
        let here : (step (suc index) given item).goes next = subst (λ (n : ℕ). (step n given item).goes next) one goes in
        subst (λ (n : ℕ). Leads (each step (suc n) next (drop (index + 1) items)) to) (sym one)
        (each_next step items to (suc index) index given leads item below is next here)

    pub turn_stops : {free caused : E → Type 0} (error : E) → Stops free caused (step (index + 1) given item) error → Stops free caused to error
    turn_stops {free} {caused} error stops =
        let one : index + 1 ≡ suc index = omega arith in
        each_stops step items to (suc index) index given leads item below is (subst (λ (n : ℕ). Stops free caused (step n given item) error) one stops)
