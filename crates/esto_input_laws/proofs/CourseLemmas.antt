-- Courses that go on or stop, whatever they are given.
use Rattle.std.proofs.Common.{◌≢◌, ◌⊎◌, ℕ, suc, inl, inr, List, [], ◌∷◌, refl}
use Rattle.esto_course.specs.Course.{Course, judges, gives, refuses, demands, and_then, each}
use Rattle.esto_term.proofs.ChoiceLemmas.{Decided}
use Rattle.esto_catalog.specs.declared.fault.CatalogueError.{CatalogueError}
use Rattle.esto_catalog.specs.declared.fault.CatalogueError.TheVariants.{OutOfMemory}

-- The course goes on with a value that has the property, or stops with an error that is no want of memory.
abbrev pub Ends : {A : Type 0} → (A → Type 0) → Course CatalogueError A → Type 0
Ends {A} P course = ((value : A) × course.goes value × P value) ⊎ ((error : CatalogueError) × (error ≢ OutOfMemory) × course.stops error)

-- any value
abbrev pub Any : {A : Type 0} → A → Type 0
Any value = Unit {0}

pub ends_gives : {A : Type 0} (P : A → Type 0) (value : A) → P value → Ends P (gives value)
unfolding gives
ends_gives P value has = inl (value, refl, has)

pub ends_refuses : {A : Type 0} (P : A → Type 0) (error : CatalogueError) → error ≢ OutOfMemory → Ends P (refuses error)
unfolding refuses
ends_refuses P error fault = inr (error, fault, refl)

pub ends_demands : {C : Type 0} → Decided C → (error : CatalogueError) → error ≢ OutOfMemory → Ends (λ _. C) (demands C error)
unfolding demands
ends_demands (inl holds) error fault = inl (tt, holds, holds)
ends_demands (inr fails) error fault = inr (error, fault, (fails, refl))

pub ends_accepts : {A : Type 0} (P accepts : A → Type 0) (refuses : CatalogueError → Type 0) (value : A) → accepts value → P value
    → Ends P (judges accepts refuses)
unfolding judges
ends_accepts P accepts refuses value holds has = inl (value, holds, has)

pub ends_rejects : {A : Type 0} (P accepts : A → Type 0) (refuses : CatalogueError → Type 0) (error : CatalogueError) → error ≢ OutOfMemory → refuses error
    → Ends P (judges accepts refuses)
unfolding judges
ends_rejects P accepts refuses error fault because = inr (error, fault, because)

pub ends_then : {A B : Type 0} (P : A → Type 0) (Q : B → Type 0) (first : Course CatalogueError A) (next : A → Course CatalogueError B) → Ends P first
    → ((value : A) → first.goes value → P value → Ends Q (next value)) → Ends Q (and_then first next)
unfolding and_then
ends_then P Q first next (inr (error, fault, stops)) later = inr (error, fault, inl stops)
ends_then {B = B} P Q first next (inl (value, goes, has)) later = by (later value goes has)
  where
    by : Ends Q (next value) → Ends Q (and_then first next)
    by (inl (result, more, holds)) = inl (result, (value, goes, more), holds)
    by (inr (error, fault, stops)) = inr (error, fault, inr (value, goes, stops))

-- steps that keep a property of what they give, for each item
pub ends_each : {A B : Type 0} (P : B → Type 0) (step : ℕ → B → A → Course CatalogueError B)
    → ((number : ℕ) (given : B) (item : A) → P given → Ends P (step number given item)) → (number : ℕ) (given : B) (items : List A) → P given
    → Ends P (each step number given items)
ends_each P step one number given [] has = ends_gives P given has
ends_each P step one number given (item ∷ items) has =
    ends_then P P (step number given item) (λ next. each step (suc number) next items) (one number given item has)
    (λ next goes holds. ends_each P step one (suc number) next items holds)
