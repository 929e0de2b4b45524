-- What a chain of steps asks for follows from what its steps ask for.
use Rattle.std.proofs.Common.{◌≡◌, ◌<◌, ◌≤◌, ◌+◌, ℕ, suc, List, [], ◌++◌, length, drop, get_or, inl, inr, refl, sym, subst, append-nil}
use Rattle.std.proofs.lemmas.List.{append_assoc, drop_all}
use Rattle.esto_course.specs.Course.{Course, Names, Point, IsQuiet, asking_nothing, judges, gives, refuses, demands, and_then, each}
use Rattle.esto_course.specs.Course.Point.{went, stopped, missing, underway}
use Rattle.esto_course.proofs.Steps.{gives_goes, items_left}

module _ {E A B : Type 0} (first : Course E A) (next : A → Course E B) where
  -- the first step stops
  pub first_stop_asks : (names : Names) (error : E) → first.asks names (stopped error) → (and_then first next).asks names (stopped error)
  unfolding and_then
  first_stop_asks names error asks = inl asks

  -- the first step is under way
  pub first_way_asks : (names : Names) → first.asks names underway → (and_then first next).asks names underway
  unfolding and_then
  first_way_asks names asks = inl asks

  -- the first step goes on, and what follows is at the point
  pub then_asks : (early late : Names) (value : A) (point : Point E B) → first.asks early (went value) → (next value).asks late point
      → (and_then first next).asks (early ++ late) point
  unfolding and_then
  then_asks early late value (went result) asks more =
      record { value = value; early = early; late = late; first_asks = asks; next_asks = more; all = refl }
  then_asks early late value (stopped error) asks more =
      inr (record { value = value; early = early; late = late; first_asks = asks; next_asks = more; all = refl })
  then_asks early late value missing asks more =
      inr (record { value = value; early = early; late = late; first_asks = asks; next_asks = more; all = refl })
  then_asks early late value underway asks more =
      inr (record { value = value; early = early; late = late; first_asks = asks; next_asks = more; all = refl })

-- ---- courses that ask for nothing

pub quiet_nothing : {E A : Type 0} (Goes : A → Type 0) (Stops : E → Type 0) → IsQuiet (asking_nothing Goes Stops)
quiet_nothing Goes Stops = record { goes = λ value goes. (goes, refl); stops = λ error stops. (stops, refl); underway = refl }

pub quiet_judges : {E A : Type 0} (accepts : A → Type 0) (refused : E → Type 0) → IsQuiet (judges accepts refused)
unfolding judges
quiet_judges accepts refused = quiet_nothing accepts refused

pub quiet_gives : (E : Type 0) {A : Type 0} (value : A) → IsQuiet (gives {E = E} value)
unfolding gives
quiet_gives E value = quiet_nothing (λ other. other ≡ value) (λ _. ⊥)

pub quiet_refuses : (A : Type 0) {E : Type 0} (error : E) → IsQuiet (refuses {A = A} error)
unfolding refuses
quiet_refuses A error = quiet_nothing (λ _. ⊥) (λ other. other ≡ error)

pub quiet_demands : {E : Type 0} (condition : Type 0) (error : E) → IsQuiet (demands condition error)
unfolding demands
quiet_demands condition error = quiet_nothing (λ _. condition) (λ other. ¬ condition × (other ≡ error))

pub quiet_then : {E A B : Type 0} (first : Course E A) (next : A → Course E B) → IsQuiet first → ((value : A) → IsQuiet (next value))
    → IsQuiet (and_then first next)
unfolding and_then
quiet_then first next one two = record {
  goes = λ result step. then_asks first next [] [] step.0 (went result) (one.goes step.0 step.1) ((two step.0).goes result step.2);
  stops = λ error stop. elim stop [
    | inl early ↦ first_stop_asks first next [] error (one.stops error early)
    | inr late ↦ then_asks first next [] [] late.0 (stopped error) (one.goes late.0 late.1) ((two late.0).stops error late.2)
  ];
  underway = first_way_asks first next [] one.underway;
}

-- that a course is quiet, for the search
pub ruleset quiet = (quiet_judges, quiet_gives, quiet_refuses, quiet_demands, quiet_then)

-- ---- loops

-- whatever the one course asks for, the other asks for after these names
pub record LeadsAsking {E A : Type 0} (so_far : Names) (from to : Course E A) : Type 0 where
  pub asks : (names : Names) (point : Point E A) → from.asks names point → to.asks (so_far ++ names) point

pub asks_itself : {E A : Type 0} (course : Course E A) → LeadsAsking [] course course
asks_itself course = record { asks = λ names point asks. asks }

-- what follows a value leads where the two steps lead
pub asks_next : {E A B : Type 0} (so_far early : Names) (first : Course E A) (next : A → Course E B) (to : Course E B) (value : A)
    → LeadsAsking so_far (and_then first next) to → first.asks early (went value)
    → LeadsAsking (so_far ++ early) (next value) to
asks_next so_far early first next to value leads asks = record {
  asks = λ names point more. subst (λ (all : Names). to.asks all point) (sym (append_assoc so_far early names))
      (leads.asks (early ++ names) point (then_asks first next early names value point asks more));
}

-- a turn of a loop over items, of which those at and after a place are left
module _ {E A B : Type 0} (step : ℕ → B → A → Course E B) (items : List A) (to : Course E B) (number place : ℕ) (given : B) (so_far : Names)
    (leads : LeadsAsking so_far (each step number given (drop place items)) to) where
  module _ (item : A) (below : place < length items) (is : item ≡ get_or items place item) where
    at_item : LeadsAsking so_far (and_then (step number given item) (λ next. each step (suc number) next (drop (place + 1) items))) to
    at_item = let P : List A → Type 0 = λ left. LeadsAsking so_far (each step number given left) to in subst P (items_left items place item below is) leads

    -- the step of the item goes on
    pub each_asks_next : (early : Names) (next : B) → (step number given item).asks early (went next)
        → LeadsAsking (so_far ++ early) (each step (suc number) next (drop (place + 1) items)) to
    each_asks_next early next asks = asks_next so_far early (step number given item) (λ next. each step (suc number) next (drop (place + 1) items)) to next
        at_item asks

    -- the step of the item stops, or is under way
    pub each_stop_asks : (names : Names) (error : E) → (step number given item).asks names (stopped error) → to.asks (so_far ++ names) (stopped error)
    each_stop_asks names error asks = at_item.asks names (stopped error) (first_stop_asks _ _ names error asks)

    pub each_way_asks : (names : Names) → (step number given item).asks names underway → to.asks (so_far ++ names) underway
    each_way_asks names asks = at_item.asks names underway (first_way_asks _ _ names asks)

  -- no item is left
  pub each_asks_end : length items ≤ place → to.asks so_far (went given)
  each_asks_end le =
      let P : List A → Type 0 = λ left. LeadsAsking so_far (each step number given left) to in
      let done : LeadsAsking so_far (gives given) to = subst P (drop_all place items le) leads in
      subst (λ (all : Names). to.asks all (went given)) (append-nil so_far)
      (done.asks [] (went given) ((quiet_gives E given).goes given (gives_goes E given given refl)))
