-- No course stops with Done.
use Rattle.std.proofs.Common.{◌≡◌, ◌≢◌, ℕ, suc, List, [], ◌∷◌, Some, sym, ◌∙◌}
use Rattle.esto_course.specs.Course.{Course, and_then, each, gives, judges}
use Rattle.esto_ports.specs.Files.{Files}
use Rattle.esto_status.specs.Calm.{Leads}
use Rattle.esto_status.specs.Fetch.{fetches, FetchStops}
use Rattle.esto_status.specs.declared.status.Status.{Status}
use Rattle.esto_status.specs.declared.status.Status.TheVariants as status
use Rattle.esto_status.proofs.LeadLemmas.{then-leads, leads-more, gives-leads, judges-leads}
use Rattle.esto_status.specs.Fetch.FetchStops.{fails, is_longer}

-- the course, where it stops, stops with another status than Done
abbrev pub Refuses : {A : Type 0} → Course Status A → Type 0
Refuses course = Leads course (λ _. Unit {0}) (λ said. said ≢ status.Done)

abbrev IsOther : Status → Type 0
IsOther said = said ≢ status.Done

pub then_refuses : {A B : Type 0} (first : Course Status A) (next : A → Course Status B) → Refuses first → ((value : A) → Refuses (next value))
    → Refuses (and_then first next)
then_refuses first next one two = then-leads first next (λ _. Unit {0}) (λ _. Unit {0}) IsOther one (λ value done. two value)

pub gives_refuses : {A : Type 0} (value : A) → Refuses (gives value)
gives_refuses value = leads-more _ _ _ IsOther (λ other is. tt) (gives-leads value IsOther)

pub judges_refuses : {A : Type 0} (Accepts : A → Type 0) (Stops : Status → Type 0) → ((said : Status) → Stops said → said ≢ status.Done)
    → Refuses (judges Accepts Stops)
judges_refuses Accepts Stops other = leads-more _ Accepts _ IsOther (λ value is. tt) (judges-leads Accepts Stops IsOther (λ said caused stop. other said stop))

pub each_refuses : {A B : Type 0} (step : ℕ → B → A → Course Status B) → ((number : ℕ) (given : B) (item : A) → Refuses (step number given item))
    → (number : ℕ) (given : B) (items : List A) → Refuses (each step number given items)
each_refuses step one number given [] = gives_refuses given
each_refuses step one number given (item ∷ items) = then_refuses _ _ (one number given item) (λ next. each_refuses step one (suc number) next items)

pub fetch_refuses : (files : Files) (name : List ℕ) (limit : ℕ) → Refuses (fetches (Some files) name limit)
unfolding fetches
fetch_refuses files name limit = record { goes = λ bytes goes. tt; stops = λ said caused stops. other said stops }
  where
    other : (said : Status) → FetchStops (Some files) name limit said → said ≢ status.Done
    other said (fails is) = λ done. let h : status.ReadFault name ≡ status.Done = sym is ∙ done in cc
    other said (is_longer file holds longer is) = λ done. let h : status.TooLong name limit ≡ status.Done = sym is ∙ done in cc
