-- Where a course, without a read fault, goes on with values of which one fact holds, and stops with statuses of which another does.
use Rattle.std.proofs.Common.{◌≡◌, ℕ, List, Some, sym, ap, ◌∙◌, inl, inr, arith, length}
use Rattle.esto_ports.specs.Files.{Files}
use Rattle.esto_course.specs.Course.{Course, judges, gives, and_then}
use Rattle.esto_status.specs.Answers.{IsCaused}
use Rattle.esto_status.specs.Calm.{Leads, AgreeCalmly}
use Rattle.esto_ports.specs.Marks.{without_mark}
use Rattle.esto_status.specs.Fetch.{FetchStops, HasWithin, fetches}
use Rattle.esto_status.specs.Fetch.FetchStops.{fails, is_longer}
use Rattle.esto_status.specs.declared.status.Status.{Status}
use Rattle.esto_status.proofs.Steps.{read_cause}

-- one step, and then what follows from a value of which the fact holds
pub then-leads : {A B : Type 0} (first : Course Status A) (next : A → Course Status B) (Fact : A → Type 0) (Result : B → Type 0) (Refusal : Status → Type 0)
    → Leads first Fact Refusal → ((value : A) → Fact value → Leads (next value) Result Refusal) → Leads (and_then first next) Result Refusal
unfolding and_then
then-leads first next Fact Result Refusal one two = record {
  goes = λ value step. (two step.0 (one.goes step.0 step.1)).goes value step.2;
  stops = λ status caused stop. elim stop [
    | inl early ↦ one.stops status caused early
    | inr late ↦
        (two late.0 (one.goes late.0 late.1)).stops status caused late.2
  ];
}

pub gives-leads : {A : Type 0} (value : A) (Refusal : Status → Type 0) → Leads (gives value) (λ other. other ≡ value) Refusal
unfolding gives
gives-leads value Refusal = record { goes = λ other is. is; stops = λ status caused stop. absurd stop }

pub judges-leads : {A : Type 0} (Accepts : A → Type 0) (Refuses Refusal : Status → Type 0)
    → ((status : Status) → IsCaused ⊥ status → Refuses status → Refusal status) → Leads (judges Accepts Refuses) Accepts Refusal
unfolding judges
judges-leads Accepts Refuses Refusal refusal = record { goes = λ value accepted. accepted; stops = refusal }

-- a further fact follows
pub leads-more : {A : Type 0} (course : Course Status A) (Fact More : A → Type 0) (Refusal : Status → Type 0) → ((value : A) → Fact value → More value)
    → Leads course Fact Refusal → Leads course More Refusal
leads-more course Fact More Refusal more leads = record { goes = λ value goes. more value (leads.goes value goes); stops = leads.stops }

pub same-file : {A : Type 0} (one other : A) → Some one ≡ Some other → one ≡ other
same-file one other same = cc

module _ (files : Files) (name : List ℕ) (limit : ℕ) (bytes : List ℕ) (has : HasWithin files name limit bytes) where
  never-longer : (status : Status) → IsCaused ⊥ status → FetchStops (Some files) name limit status → ⊥
  never-longer status caused (fails is) = read_cause ⊥ status name is caused
  never-longer status caused (is_longer file holds longer is) =
      let same : has.0 ≡ file = same-file _ _ (sym has.1 ∙ holds) in
      omega (arith, has.2, longer, ap length same)

  -- a file within its limit is fetched
  pub fetches-leads : (Refusal : Status → Type 0) → Leads (fetches (Some files) name limit) (λ other. other ≡ bytes) Refusal
  unfolding fetches
  fetches-leads Refusal = record {
    goes = λ other fetched. fetched.3 ∙ ap without_mark (same-file fetched.0 has.0 (sym fetched.1 ∙ has.1)) ∙ sym has.3;
    stops = λ status caused stop. absurd (never-longer status caused stop);
  }

-- a course leads to what is the same as a value with which one goes on that agrees with it
pub agreed_leads : {A : Type 0} (Same : A → A → Type 0) (course other : Course Status A) (value : A) (Refusal : Status → Type 0)
    → AgreeCalmly Same course other → course.goes value → Leads other (Same value) Refusal
agreed_leads Same course other value Refusal agree goes = record {
  goes = λ its there. agree.one value its goes there;
  stops = λ said caused stop. absurd (agree.apart value said caused goes stop);
}
