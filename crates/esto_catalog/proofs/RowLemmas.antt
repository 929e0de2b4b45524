-- How the answer of a row follows from what it found.
use Rattle.std.proofs.Common.{◌≡◌, Bor, Option, Some, None, option_copied, subst, Bool, true, false, not, Result, Ok, Err, inl, inr, refl, sym, ◌∙◌}
use Rattle.std.proofs.lemmas.Bool.{false≢true}
use Rattle.std.specs.Prelude.{◌↔◌, MatchOption}
use Rattle.std.specs.Result.{IfOk, IfErr, IsErrAnd, result_and}
use Rattle.esto_course.proofs.Steps.{at_exit, first_stops, then_stops, then_goes, gives_goes}
use Rattle.esto_course.specs.Course.{Course, judges, gives, refuses, demands, and_then, Stops}
use Rattle.esto_course.specs.Course.Stops.{is_free, refused}
use Rattle.esto_catalog.specs.Rows.{IsWant, IsAny, IsFault, Walks}
use Rattle.esto_settings.specs.declared.setting.Setting.{Setting}
use Rattle.esto_catalog.specs.declared.fault.CatalogueError.{CatalogueError}
use Rattle.esto_catalog.specs.declared.fault.CatalogueError.TheVariants.{OutOfMemory}

-- an error that `?` hands on
pub row_exit : {A : Type 0} (course : Course CatalogueError A) (error : CatalogueError) (result : Result A CatalogueError)
    → IsErrAnd result (λ handed. handed ≡ error) → Stops IsWant IsAny course error → Walks course result
row_exit course error result handed stops = at_exit course error result handed stops

-- what is said of an error that `?` hands on
pub error_exit : {A : Type 0} (P : CatalogueError → Type 0) (error : CatalogueError) (result : Result A CatalogueError)
    → IsErrAnd result (λ handed. handed ≡ error) → P error → IfErr result P
error_exit P error (Ok value) handed holds = tt
error_exit P error (Err other) handed holds = subst P (sym handed) holds

-- a row that goes on, and then what follows
pub then_walks : {A B : Type 0} (first : Course CatalogueError A) (next : A → Course CatalogueError B) (value : A) (result : Result B CatalogueError)
    → first.goes value → Walks (next value) result → Walks (and_then first next) result
then_walks first next value (Ok more) goes walks = then_goes first next value more goes walks
then_walks first next value (Err error) goes walks = then_stops first next value goes walks

-- two steps that are one, and then what follows
pub regroup : {A B C : Type 0} (first : Course CatalogueError A) (next : A → Course CatalogueError B) (last : B → Course CatalogueError C)
    (result : Result C CatalogueError) → Walks (and_then (and_then first next) last) result → Walks (and_then first (λ a. and_then (next a) last)) result
unfolding and_then
regroup first next last (Ok value) (more, (here, goes, on), rest) = (here, goes, (more, on, rest))
regroup first next last (Err error) (is_free is) = is_free is
regroup first next last (Err error) (refused because (inl (inl stops))) = refused because (inl stops)
regroup first next last (Err error) (refused because (inl (inr (here, goes, stops)))) = refused because (inr (here, goes, inl stops))
regroup first next last (Err error) (refused because (inr (more, (here, goes, on), stops))) = refused because (inr (here, goes, inr (more, on, stops)))

-- want of memory is free
pub memory_stops : {A : Type 0} (course : Course CatalogueError A) (error : CatalogueError) → error ≡ OutOfMemory → Stops IsWant IsAny course error
memory_stops course error is = is_free is

-- the fault itself
pub fault_is : (fault error : CatalogueError) → error ≡ fault → IsFault fault error
fault_is fault error is = inl is

-- a row that refuses with the fault
pub refuses_stops : (A : Type 0) (fault error : CatalogueError) → IsFault fault error → Stops IsWant IsAny (refuses {A = A} fault) error
unfolding refuses
refuses_stops A fault error (inl is) = refused tt is
refuses_stops A fault error (inr want) = is_free want

-- a condition that holds
pub demands_goes : (condition : Type 0) (fault : CatalogueError) (unit : Unit {0}) → condition → (demands condition fault).goes unit
unfolding demands
demands_goes condition fault unit holds = holds

-- a condition that does not hold
pub demands_stops : (condition : Type 0) (fault error : CatalogueError) → ¬ condition → IsFault fault error → Stops IsWant IsAny (demands condition fault) error
unfolding demands
demands_stops condition fault error fails (inl is) = refused tt (fails, is)
demands_stops condition fault error fails (inr want) = is_free want

-- a condition in other words
module _ (condition other : Type 0) (fault : CatalogueError) (same : condition ↔ other) where
  pub same_goes : (unit more : Unit {0}) → (demands condition fault).goes unit → (demands other fault).goes more
  unfolding demands
  same_goes unit more holds = same.0 holds

  pub same_stops : (error : CatalogueError) → Stops IsWant IsAny (demands condition fault) error → Stops IsWant IsAny (demands other fault) error
  unfolding demands
  same_stops error (is_free is) = is_free is
  same_stops error (refused because stops) = refused because ((λ holds. stops.0 (same.1 holds)), stops.1)

  pub same_walks : (result : Result (Unit {0}) CatalogueError) → Walks (demands condition fault) result → Walks (demands other fault) result
  same_walks (Ok unit) goes = same_goes unit unit goes
  same_walks (Err error) stops = same_stops error stops

-- a test that answers another
by_test : (answer test : Bool) → answer ≡ test → (answer ≡ true) ↔ (test ≡ true)
by_test answer test is = ((λ yes. sym is ∙ yes), (λ yes. is ∙ yes))

by_not : (answer test : Bool) → answer ≡ not test → (answer ≡ true) ↔ (test ≡ false)
by_not answer true is = ((λ yes. absurd (false≢true (sym is ∙ yes))), (λ no. absurd (false≢true (sym no))))
by_not answer false is = ((λ yes. refl), (λ no. is))

module _ (answer test : Bool) (fault : CatalogueError) where
  pub test_goes : (unit more : Unit {0}) → (demands (answer ≡ true) fault).goes unit → answer ≡ test → (demands (test ≡ true) fault).goes more
  test_goes unit more goes is = same_goes _ _ fault (by_test answer test is) unit more goes

  pub test_stops : (error : CatalogueError) → Stops IsWant IsAny (demands (answer ≡ true) fault) error → answer ≡ test
      → Stops IsWant IsAny (demands (test ≡ true) fault) error
  test_stops error stops is = same_stops _ _ fault (by_test answer test is) error stops

  pub not_goes : (unit more : Unit {0}) → (demands (answer ≡ true) fault).goes unit → answer ≡ not test → (demands (test ≡ false) fault).goes more
  not_goes unit more goes is = same_goes _ _ fault (by_not answer test is) unit more goes

  pub not_walks : (result : Result (Unit {0}) CatalogueError) → Walks (demands (answer ≡ true) fault) result → answer ≡ not test
      → Walks (demands (test ≡ false) fault) result
  not_walks result walks is = same_walks _ _ fault (by_not answer test is) result walks

  pub not_stops : (error : CatalogueError) → Stops IsWant IsAny (demands (answer ≡ true) fault) error → answer ≡ not test
      → Stops IsWant IsAny (demands (test ≡ false) fault) error
  not_stops error stops is = same_stops _ _ fault (by_not answer test is) error stops

-- a value that a condition lets pass
module _ {A : Type 0} (value : A) (checked : Result (Unit {0}) CatalogueError) (result : Result A CatalogueError)
    (is : result ≡ result_and checked (Ok value)) where
  passes : (checks : Course CatalogueError (Unit {0})) (checked : Result (Unit {0}) CatalogueError) → Walks checks checked
      → Walks (and_then checks (λ _. gives value)) (result_and checked (Ok value))
  passes checks (Ok unit) goes = then_goes checks (λ _. gives value) unit value goes (gives_goes CatalogueError value value refl)
  passes checks (Err error) stops = first_stops checks (λ _. gives value) stops

  pub checked_walks : (checks : Course CatalogueError (Unit {0})) → Walks checks checked → Walks (and_then checks (λ _. gives value)) result
  checked_walks checks walks = subst (Walks (and_then checks (λ _. gives value))) (sym is) (passes checks checked walks)

  -- two checks in a row
  pub both_walk : (first second : Course CatalogueError (Unit {0})) → Walks (and_then first (λ _. second)) checked
      → Walks (and_then first (λ _. and_then second (λ _. gives value))) result
  both_walk first second walks = regroup first (λ _. second) (λ _. gives value) result (checked_walks (and_then first (λ _. second)) walks)

  pub checked_holds : (P : A → Type 0) → P value → IfOk result P
  checked_holds P holds = subst (λ (it : Result A CatalogueError). IfOk it P) (sym is) (keeps checked) where
    keeps : (checked : Result (Unit {0}) CatalogueError) → IfOk (result_and checked (Ok value)) P
    keeps (Ok unit) = holds
    keeps (Err error) = tt

-- a judgement that accepts
pub judges_goes : {A : Type 0} (accepts : A → Type 0) (refuses : CatalogueError → Type 0) (value : A) → accepts value → (judges accepts refuses).goes value
unfolding judges
judges_goes accepts refuses value accepted = accepted

-- a judgement that refuses with a fault
pub judges_stops : {A : Type 0} (accepts : A → Type 0) (refuses : CatalogueError → Type 0) (fault error : CatalogueError)
    → ((other : CatalogueError) → other ≡ fault → refuses other)
    → IsFault fault error → Stops IsWant IsAny (judges accepts refuses) error
unfolding judges
judges_stops accepts refuses fault error refused_so (inl is) = refused tt (refused_so error is)
judges_stops accepts refuses fault error refused_so (inr want) = is_free want

-- a setting by reference
pub copied_setting : (found : Option (Bor Setting)) (setting : Option Setting) → MatchOption found (setting ≡ None) (λ it. setting ≡ Some it.now)
    → option_copied found ≡ setting
copied_setting None setting is = sym is
copied_setting (Some it) setting is = sym is

-- the rows, for the search
pub ruleset rows = (
  row_exit,
  first_stops,
  then_stops,
  then_goes,
  gives_goes,
  memory_stops,
  fault_is,
  refuses_stops,
  demands_goes,
  demands_stops,
  judges_goes,
  test_goes,
  test_stops,
  not_goes,
  not_stops,
  same_goes,
  same_stops,
)
