-- Courses that ask for the same names.
use Rattle.std.proofs.Common.{◌≡◌, ◌⊎◌, ℕ, List, [], ◌∷◌, ◌++◌, inl, inr, refl, sym, ap, subst, ◌∙◌, append-nil}
use Rattle.std.proofs.lemmas.List.{append_assoc}
use Rattle.esto_course.specs.Agreement.{AskAlike, Begins, IsEnd}
use Rattle.esto_course.specs.Course.{Course, Names, Point, AsksLater, and_then, asks_nothing, asks_once, asks_in_turn, asking_nothing, asking_once}
use Rattle.esto_course.specs.Course.Point.{went, stopped, missing, underway}

-- ---- names that begin others

begins_itself : (names list : Names) → names ≡ list → Begins names list
begins_itself names list same = ([], sym same ∙ sym (append-nil names))

begins_any : (names list : Names) → names ≡ [] → Begins names list
begins_any names list none = (list, ap (λ (l : Names). l ++ list) (sym none))

begins_more : (names early list late : Names) → Begins names early → list ≡ early ++ late → Begins names list
begins_more names early list late (rest, is) all = (rest ++ late, all ∙ ap (λ (l : Names). l ++ late) is ∙ append_assoc names rest late)

begins_after : (names list early other late all : Names) → early ≡ other → Begins late all → names ≡ early ++ late → list ≡ other ++ all → Begins names list
begins_after names list early other late all same (rest, is) these those = (
  rest,
  those ∙ ap (λ (l : Names). l ++ all) (sym same) ∙ ap (λ (l : Names). early ++ l) is ∙ sym (append_assoc early late rest)
      ∙ ap (λ (l : Names). l ++ rest) (sym these),
)

both_same : (names others early early' late late' : Names) → early ≡ early' → late ≡ late' → names ≡ early ++ late → others ≡ early' ++ late'
    → names ≡ others
both_same names others early early' late late' same same' these those =
    these ∙ ap (λ (l : Names). l ++ late) same ∙ ap (λ (l : Names). early' ++ l) same' ∙ sym those

-- ---- steps that ask for nothing, or for one name

module _ {E A : Type 0} (Goes : A → Type 0) (Stops : E → Type 0) where
  nothing_is : (names : Names) (point : Point E A) → asks_nothing Goes Stops names point → names ≡ []
  nothing_is names (went value) asks = asks.1
  nothing_is names (stopped error) asks = asks.1
  nothing_is names missing asks = absurd asks
  nothing_is names underway asks = asks

  module _ (Lacks : Type 0) (name : List ℕ) where
    once_is : (caused : E → Type 0) (names : Names) (point : Point E A) → IsEnd caused point → asks_once name Goes Stops Lacks names point
        → names ≡ name ∷ []
    once_is caused names (went value) is_end asks = asks.1
    once_is caused names (stopped error) is_end asks = asks.1
    once_is caused names missing is_end asks = asks.1
    once_is caused names underway is_end asks = absurd is_end

    once_begins : (names all : Names) (point : Point E A) → all ≡ name ∷ [] → asks_once name Goes Stops Lacks names point → Begins names all
    once_begins names all (went value) whole asks = begins_itself names all (asks.1 ∙ sym whole)
    once_begins names all (stopped error) whole asks = begins_itself names all (asks.1 ∙ sym whole)
    once_begins names all missing whole asks = begins_itself names all (asks.1 ∙ sym whole)
    once_begins names all underway whole asks = elim asks [
      | inl none ↦ begins_any names all none
      | inr one ↦ begins_itself names all (one ∙ sym whole)
    ]

module _ {E A : Type 0} (caused : E → Type 0) (Goes Others : A → Type 0) (Stops OtherStops : E → Type 0) where
  pub nothing_alike : AskAlike caused (asking_nothing Goes Stops) (asking_nothing Others OtherStops)
  nothing_alike = record {
    one = λ names others end other_end is_end is_other here there.
        nothing_is Goes Stops names end here ∙ sym (nothing_is Others OtherStops others other_end there);
    begins = λ names all point end is_end here there. begins_any names all (nothing_is Goes Stops names point here);
    other_begins = λ names all point end is_end here there. begins_any names all (nothing_is Others OtherStops names point here);
    lacks = λ names others value here there. here;
    other_lacks = λ names others value there here. there;
  }

  module _ (Lacks OtherLacks : Type 0) (name : List ℕ) (apart : (value : A) → Lacks → Others value → ⊥)
      (other_apart : (value : A) → OtherLacks → Goes value → ⊥) where
    pub once_alike : AskAlike caused (asking_once name Goes Stops Lacks) (asking_once name Others OtherStops OtherLacks)
    once_alike = record {
      one = λ names others end other_end is_end is_other here there.
          once_is Goes Stops Lacks name caused names end is_end here ∙ sym (once_is Others OtherStops OtherLacks name caused others other_end is_other there);
      begins = λ names all point end is_end here there.
          once_begins Goes Stops Lacks name names all point (once_is Others OtherStops OtherLacks name caused all end is_end there) here;
      other_begins = λ names all point end is_end here there.
          once_begins Others OtherStops OtherLacks name names all point (once_is Goes Stops Lacks name caused all end is_end there) here;
      lacks = λ names others value here there. apart value here.0 there.0;
      other_lacks = λ names others value there here. other_apart value there.0 here.0;
    }

-- ---- fewer errors that have a cause

fewer_ends : {E A : Type 0} (caused wider : E → Type 0) → ((error : E) → caused error → wider error) → (point : Point E A) → IsEnd caused point
    → IsEnd wider point
fewer_ends caused wider more (went value) is_end = tt
fewer_ends caused wider more (stopped error) is_end = more error is_end
fewer_ends caused wider more missing is_end = tt
fewer_ends caused wider more underway is_end = absurd is_end

-- what courses ask alike up to the ends with more causes, they ask alike up to those with fewer
pub fewer_alike : {E A : Type 0} (caused wider : E → Type 0) (course other : Course E A) → ((error : E) → caused error → wider error)
    → AskAlike wider course other
    → AskAlike caused course other
fewer_alike caused wider course other more alike = record {
  one = λ names others end other_end is_end is_other here there.
      alike.one names others end other_end (fewer_ends caused wider more end is_end) (fewer_ends caused wider more other_end is_other) here there;
  begins = λ names all point end is_end here there. alike.begins names all point end (fewer_ends caused wider more end is_end) here there;
  other_begins = λ names all point end is_end here there. alike.other_begins names all point end (fewer_ends caused wider more end is_end) here there;
  lacks = alike.lacks;
  other_lacks = alike.other_lacks;
}

-- ---- one step, and then what follows

-- a first step ends a chain: it lacks what it asked for, or it stopped with an error that has a cause
EndsChain : {E A : Type 0} (caused : E → Type 0) (at : Point E A) → Type 0
EndsChain {E = E} caused at = (at ≡ missing) ⊎ ((error : E) × (at ≡ stopped error) × caused error)

-- where a chain of steps stands at a point: its first step came to an end or is under way, or it went on
data Stands {E A B : Type 0} (caused : E → Type 0) (first : Course E A) (next : A → Course E B) (names : Names) (point : Point E B) : Type 0 where
  early : (at : Point E A) → first.asks names at → (IsEnd caused point → EndsChain caused at) → Stands caused first next names point
  late : AsksLater first next names point → Stands caused first next names point

stands : {E A B : Type 0} (caused : E → Type 0) (first : Course E A) (next : A → Course E B) (names : Names) (point : Point E B)
    → asks_in_turn first next names point → Stands caused first next names point
unfolding EndsChain
stands caused first next names (went value) asks = late asks
stands caused first next names (stopped error) asks = elim asks [
  | inl here ↦ early (stopped error) here (λ is_end. inr (error, refl, is_end))
  | inr there ↦ late there
]
stands caused first next names missing asks = elim asks [ inl here ↦ early missing here (λ is_end. inl refl) | inr there ↦ late there ]
stands caused first next names underway asks = elim asks [ inl here ↦ early underway here (λ is_end. absurd is_end) | inr there ↦ late there ]

-- the point at which a first step ends a chain is an end of it
stop_ends : {E A : Type 0} (caused : E → Type 0) (at : Point E A) → EndsChain caused at → IsEnd caused at
unfolding EndsChain
stop_ends caused at ends = elim ends [
  | inl lacks ↦ subst (IsEnd caused) (sym lacks) tt
  | inr stop ↦ subst (IsEnd caused) (sym stop.1) stop.2
]

-- where one course goes on, the other's first step ends no chain
never_ends : {E A : Type 0} (caused : E → Type 0) (course : Course E A) (names : Names) (at : Point E A) → (course.asks names missing → ⊥)
    → ((error : E) → caused error → course.stops error → ⊥)
    → course.asks names at → EndsChain caused at → ⊥
unfolding EndsChain
never_ends caused course names at lacks apart asks ends = elim ends [
  | inl is ↦ lacks (subst (course.asks names) is asks)
  | inr stop ↦ apart stop.0 stop.2 (course.asks_stops names stop.0 (subst (course.asks names) stop.1 asks))
]

module _ {E A B : Type 0} (caused : E → Type 0) (Same : A → A → Type 0) (first other : Course E A) (next other_next : A → Course E B)
    (one : (value other_value : A) → first.goes value → other.goes other_value → Same value other_value)
    (apart : (value : A) (error : E) → caused error → first.goes value → other.stops error → ⊥) (here : AskAlike caused first other)
    (there : (value other_value : A) → first.goes value → Same value other_value → AskAlike caused (next value) (other_next other_value)) where
  -- what the first chain asked at a point begins what the other asked up to its end
  chain_begins : (names all : Names) (point end : Point E B) → IsEnd caused end → Stands caused first next names point
      → Stands caused other other_next all end
      → Begins names all
  chain_begins names all point end is_end (early at asks ends) (early at' asks' ends') = here.begins names all at at' (stop_ends caused at' (ends' is_end))
      asks asks'
  chain_begins names all point end is_end (early at asks ends) (late later) =
      begins_more names later.early all later.late (here.begins names later.early at (went later.value) tt asks later.first_asks) later.all
  chain_begins names all point end is_end (late later) (early at' asks' ends') =
      absurd (never_ends caused other all at' (λ lacks. here.other_lacks all later.early later.value lacks later.first_asks)
      (λ error because. apart later.value error because (first.asks_goes later.early later.value later.first_asks)) asks' (ends' is_end))
  chain_begins names all point end is_end (late later) (late later') =
      let goes = first.asks_goes later.early later.value later.first_asks in
      let goes' = other.asks_goes later'.early later'.value later'.first_asks in
      begins_after names all later.early later'.early later.late later'.late
      (here.one later.early later'.early (went later.value) (went later'.value) tt tt later.first_asks later'.first_asks)
      ((there later.value later'.value goes (one later.value later'.value goes goes')).begins later.late later'.late point end is_end later.next_asks
      later'.next_asks)
      later.all later'.all

module _ {E A B : Type 0} (caused : E → Type 0) (Same : A → A → Type 0) (first other : Course E A) (next other_next : A → Course E B)
    (one : (value other_value : A) → first.goes value → other.goes other_value → Same value other_value)
    (apart : (value : A) (error : E) → caused error → first.goes value → other.stops error → ⊥)
    (other_apart : (value : A) (error : E) → caused error → other.goes value → first.stops error → ⊥) (here : AskAlike caused first other)
    (there : (value other_value : A) → first.goes value → Same value other_value → AskAlike caused (next value) (other_next other_value)) where
  -- at their ends both chains asked for the same
  chain_one : (names others : Names) (end other_end : Point E B) → IsEnd caused end → IsEnd caused other_end → Stands caused first next names end
      → Stands caused other other_next others other_end
      → names ≡ others
  chain_one names others end other_end is_end is_other (early at asks ends) (early at' asks' ends') =
      here.one names others at at' (stop_ends caused at (ends is_end)) (stop_ends caused at' (ends' is_other)) asks asks'
  chain_one names others end other_end is_end is_other (early at asks ends) (late later) =
      absurd (never_ends caused first names at (λ lacks. here.lacks names later.early later.value lacks later.first_asks)
      (λ error because. other_apart later.value error because (other.asks_goes later.early later.value later.first_asks)) asks (ends is_end))
  chain_one names others end other_end is_end is_other (late later) (early at' asks' ends') =
      absurd (never_ends caused other others at' (λ lacks. here.other_lacks others later.early later.value lacks later.first_asks)
      (λ error because. apart later.value error because (first.asks_goes later.early later.value later.first_asks)) asks' (ends' is_other))
  chain_one names others end other_end is_end is_other (late later) (late later') =
      let goes = first.asks_goes later.early later.value later.first_asks in
      let goes' = other.asks_goes later'.early later'.value later'.first_asks in
      both_same names others later.early later'.early later.late later'.late
      (here.one later.early later'.early (went later.value) (went later'.value) tt tt later.first_asks later'.first_asks)
      ((there later.value later'.value goes (one later.value later'.value goes goes')).one later.late later'.late end other_end is_end is_other
      later.next_asks later'.next_asks)
      later.all later'.all

-- the same two courses the other way round
turned : {E A : Type 0} (caused : E → Type 0) (course other : Course E A) → AskAlike caused course other → AskAlike caused other course
turned caused course other alike = record {
  one = λ names others end other_end is_end is_other here there. sym (alike.one others names other_end end is_other is_end there here);
  begins = alike.other_begins;
  other_begins = alike.begins;
  lacks = alike.other_lacks;
  other_lacks = alike.lacks;
}

module _ {E A B : Type 0} (caused : E → Type 0) (Same : A → A → Type 0) (first other : Course E A) (next other_next : A → Course E B)
    (one : (value other_value : A) → first.goes value → other.goes other_value → Same value other_value)
    (apart : (value : A) (error : E) → caused error → first.goes value → other.stops error → ⊥)
    (other_apart : (value : A) (error : E) → caused error → other.goes value → first.stops error → ⊥) (here : AskAlike caused first other)
    (there : (value other_value : A) → first.goes value → Same value other_value → AskAlike caused (next value) (other_next other_value)) where
  at_values : (value : A) (other_value : A) → first.goes value → other.goes other_value → AskAlike caused (next value) (other_next other_value)
  at_values value other_value goes goes' = there value other_value goes (one value other_value goes goes')

  pub then_alike : AskAlike caused (and_then first next) (and_then other other_next)
  unfolding and_then
  then_alike = record {
    one = λ names others end other_end is_end is_other asks other_asks. chain_one caused Same first other next other_next one apart other_apart here there
        names others end other_end is_end is_other (stands caused first next names end asks)
        (stands caused other other_next others other_end other_asks);
    begins = λ names all point end is_end asks other_asks. chain_begins caused Same first other next other_next one apart here there names all point end
        is_end (stands caused first next names point asks) (stands caused other other_next all end other_asks);
    other_begins = λ names all point end is_end other_asks asks. chain_begins caused (λ other_value value. first.goes value × Same value other_value) other
        first other_next next (λ other_value value other_goes goes. (goes, one value other_value goes other_goes)) other_apart
        (turned caused first other here)
        (λ other_value value other_goes both. turned caused (next value) (other_next other_value) (there value other_value both.0 both.1)) names all point
        end is_end (stands caused other other_next names point other_asks) (stands caused first next all end asks);
    lacks = λ names others result asks later'. elim asks [
      | inl lacks ↦ here.lacks names later'.early later'.value lacks later'.first_asks
      | inr later ↦
          (at_values later.value later'.value (first.asks_goes later.early later.value later.first_asks)
          (other.asks_goes later'.early later'.value later'.first_asks)).lacks later.late later'.late result later.next_asks later'.next_asks
    ];
    other_lacks = λ names others result other_asks later. elim other_asks [
      | inl lacks ↦ here.other_lacks names later.early later.value lacks later.first_asks
      | inr later' ↦
          (at_values later.value later'.value (first.asks_goes later.early later.value later.first_asks)
          (other.asks_goes later'.early later'.value later'.first_asks)).other_lacks later'.late later.late result later'.next_asks later.next_asks
    ];
  }
