-- Courses over files come to an end, step by step.
use Rattle.std.proofs.Common.{◌≡◌, inl, inr, ℕ, suc, List, [], ◌∷◌, ◌++◌, length, Contains, Some, None, Option, refl, arith}
use Rattle.std.proofs.lemmas.Bool.{cases_order}
use Rattle.std.specs.FinMap.{get}
use Rattle.esto_course.specs.Course.{Course, Names, judges, gives, refuses, and_then, each}
use Rattle.esto_course.specs.Course.Point.{went}
use Rattle.esto_ports.specs.Marks.{without_mark}
use Rattle.esto_status.specs.Answers.{IsCaused}
use Rattle.esto_status.specs.Fetch.{fetches}
use Rattle.esto_status.specs.Fetch.FetchStops.{is_longer}
use Rattle.esto_status.specs.declared.status.Status.{Status}
use Rattle.esto_status.specs.declared.status.Status.TheVariants.{TooLong}
use Rattle.esto_ports.specs.Files.{Files}
use Rattle.esto_term.proofs.ListLemmas.{Contains-head, Contains-rest}
use Rattle.esto_top.specs.Ends.{Ends, EndsOrLacks}
use Rattle.esto_top.specs.Ends.Ends.{goes, stops, lacks}

-- it may go on with the value
abbrev pub Goes : {A : Type 0} → Course Status A → A → Type 0
Goes course value = (names : Names) × course.asks names (went value)

module _ {A B : Type 0} (first : Course Status A) (next : A → Course Status B) where
  -- the first step goes on with a value, and what follows comes to an end
  pub ends_by : {lack : Type 0} (value : A) → Goes first value → Ends lack (next value) → Ends lack (and_then first next)
  unfolding and_then
  ends_by value (early, asks) (goes late result more) =
      goes (early ++ late) result (record { value = value; early = early; late = late; first_asks = asks; next_asks = more; all = refl })
  ends_by value (early, asks) (stops late refusal caused more) =
      stops (early ++ late) refusal caused (inr (record { value = value; early = early; late = late; first_asks = asks; next_asks = more; all = refl }))
  ends_by value (early, asks) (lacks late may more) =
      lacks (early ++ late) may (inr (record { value = value; early = early; late = late; first_asks = asks; next_asks = more; all = refl }))

  -- the first step comes to an end, and so does what follows from each of its values
  pub ends_then : {lack : Type 0} → Ends lack first → ((value : A) → first.goes value → Ends lack (next value)) → Ends lack (and_then first next)
  unfolding and_then
  ends_then (goes names value asks) more = ends_by value (names, asks) (more value (first.asks_goes names value asks))
  ends_then (stops names refusal caused asks) more = stops names refusal caused (inl asks)
  ends_then (lacks names may asks) more = lacks names may (inl asks)

-- what always ends does so too where a file may be lacking
pub ends_more : {A lack : Type 0} (course : Course Status A) → Ends ⊥ course → Ends lack course
ends_more course (goes names value asks) = goes names value asks
ends_more course (stops names refusal caused asks) = stops names refusal caused asks
ends_more course (lacks names never asks) = absurd never

pub goes_ends : {lack A : Type 0} (course : Course Status A) (value : A) → Goes course value → Ends lack course
goes_ends course value (names, asks) = goes names value asks

-- ---- judgements

module _ {A : Type 0} (Accepts : A → Type 0) (Refuses : Status → Type 0) where
  pub judges_goes : (value : A) → Accepts value → Goes (judges Accepts Refuses) value
  unfolding judges
  judges_goes value accepted = ([], (accepted, refl))

  pub judges_accepts : {lack : Type 0} (value : A) → Accepts value → Ends lack (judges Accepts Refuses)
  judges_accepts value accepted = goes_ends (judges Accepts Refuses) value (judges_goes value accepted)

  pub judges_refuses : {lack : Type 0} (refusal : Status) → IsCaused ⊥ refusal → Refuses refusal → Ends lack (judges Accepts Refuses)
  unfolding judges
  judges_refuses refusal caused refused = stops [] refusal caused (refused, refl)

  pub judges_accepted : (value : A) → (judges Accepts Refuses).goes value → Accepts value
  unfolding judges
  judges_accepted value accepted = accepted

  -- one judgement, whose values are there, and then what follows from each of them
  pub ends_judged : {lack B : Type 0} (next : A → Course Status B) → (value : A) × Accepts value → ((value : A) → Accepts value → Ends lack (next value))
      → Ends lack (and_then (judges Accepts Refuses) next)
  ends_judged next (value, accepted) more = ends_by (judges Accepts Refuses) next value (judges_goes value accepted) (more value accepted)

  pub ends_refused : {lack B : Type 0} (next : A → Course Status B) (refusal : Status) → IsCaused ⊥ refusal → Refuses refusal
      → Ends lack (and_then (judges Accepts Refuses) next)
  unfolding and_then judges
  ends_refused next refusal caused refused = stops [] refusal caused (inl (refused, refl))

pub gives_ends : {lack A : Type 0} (value : A) → Ends lack (gives value)
unfolding gives
gives_ends value = goes [] value (refl, refl)

pub refuses_ends : {lack A : Type 0} (refusal : Status) → IsCaused ⊥ refusal → Ends lack (refuses {A = A} refusal)
unfolding refuses
refuses_ends refusal caused = stops [] refusal caused (refl, refl)

-- ---- fetches

module _ (files : Files) (name : List ℕ) (limit : ℕ) where
  pub fetches_ends : EndsOrLacks (fetches (Some files) name limit)
  unfolding fetches
  fetches_ends = by (get files name) refl
    where
      by : (found : Option (List ℕ)) → get files name ≡ found → EndsOrLacks (fetches (Some files) name limit)
      by None is = lacks (name ∷ []) tt (is, refl)
      by (Some file) has = elim (cases_order limit (length file)) [
        | inl same ↦ goes (name ∷ []) (without_mark file) ((file, has, omega (arith, same), refl), refl)
        | inr (inl less) ↦ stops (name ∷ []) (TooLong name limit) (record { cause = tt }) (is_longer file has less refl, refl)
        | inr (inr more) ↦ goes (name ∷ []) (without_mark file) ((file, has, omega (arith, more), refl), refl)
      ]

-- ---- one step for each item

pub each_ends : {lack A B : Type 0} (step : ℕ → B → A → Course Status B) (items : List A) (number : ℕ) (given : B)
    → ((number : ℕ) (given : B) (item : A) → Contains items item → Ends lack (step number given item)) → Ends lack (each step number given items)
each_ends step [] number given ends = gives_ends given
each_ends step (item ∷ items) number given ends =
    ends_then (step number given item) (λ next. each step (suc number) next items) (ends number given item (Contains-head item items))
    (λ next goes. each_ends step items (suc number) next (λ number given other inside. ends number given other (Contains-rest item items other inside)))
