-- The end of a command: its text, and the one put of it.
use Rattle.std.proofs.Common.{◌≡◌, ℕ, List, Option, Some, None, Result, Ok, Err, inl, inr, refl, sym, ap, subst, ◌∙◌}
use Rattle.std.specs.Prelude.{IfSome, MatchResult, unwrap_or}
use Rattle.std.specs.Option.{option_zip}
use Rattle.esto_ports.specs.Asked.{CountsOne}
use Rattle.esto_ports.specs.Faults.{Rose}
use Rattle.esto_ports.specs.Put.{Puts}
use Rattle.esto_ports.specs.declared.ports.SinkError.{SinkError}
use Rattle.esto_ports.specs.declared.ports.SinkError.TheVariants as sink
use Rattle.esto_status.specs.declared.reply.Reply.{Reply}
use Rattle.esto_status.specs.declared.status.Status.{Status}
use Rattle.esto_top.specs.Outcome.{Finishes, IsSaid, PutsOnce, status_of_error}
use Rattle.esto_top.specs.Outcome.Finishes.{whole, cut, memory}
use Rattle.esto_top.proofs.AskedLemmas.{puts_failed, puts_whole}

-- a refusal goes with its line, where that is made
pub refusal_said : (status : Status) (line : Option (List ℕ)) → IfSome line (λ text. IsSaid (Err status) status text)
    → IfSome (option_zip (Some status) line) (λ said. IsSaid (Err status) said.0 said.1)
refusal_said status None said = tt
refusal_said status (Some text) said = said

-- the status behind a put: the command's own, or that of the put's error
abbrev status_after : Status → Result (Unit {0}) SinkError → Status
status_after status (Ok _) = status
status_after status (Err error) = status_of_error error

module _ (put : Result (Unit {0}) SinkError) (error : Option Status) (status result : Status)
    (is : MatchResult put (λ _. error ≡ None) (λ its. error ≡ Some (status_of_error its)))
    (ends : result ≡ unwrap_or error status) where
  status_is : status_after status put ≡ result
  status_is = sym (ends ∙ after put is)
    where
      after : (it : Result (Unit {0}) SinkError) → MatchResult it (λ _. error ≡ None) (λ its. error ≡ Some (status_of_error its))
          → unwrap_or error status ≡ status_after status it
      after (Ok _) none = ap (λ (it : Option Status). unwrap_or it status) none
      after (Err its) some = ap (λ (it : Option Status). unwrap_or it status) some

  -- what is written by the put
  pub put_finishes : (answer : Result Reply Status) (old new : Option (List ℕ)) (before now : ℕ) (text bytes : List ℕ) → bytes ≡ text
      → IsSaid answer status text → Puts old new before now bytes put → Finishes answer old new (Rose before now) result
  put_finishes answer old new before now text bytes same said puts =
      subst (Finishes answer old new (Rose before now)) status_is (ends_at put (subst (λ (it : List ℕ). Puts old new before now it put) same puts))
    where
      ends_at : (it : Result (Unit {0}) SinkError) → Puts old new before now text it
          → Finishes answer old new (Rose before now) (status_after status it)
      ends_at (Ok done) appends = whole text said appends
      ends_at (Err sink.Failed) failed = cut status text failed.1.0 said failed.0 failed.1.1 refl
      ends_at (Err sink.OutOfMemory) keeps = memory keeps refl

  -- and what is counted
  pub put_counts : (old new : Option ℕ) → CountsOne old new put → PutsOnce old new result
  put_counts old new counts = subst (PutsOnce old new) status_is (counts_at old new put counts)
    where
      counts_at : (old new : Option ℕ) (it : Result (Unit {0}) SinkError) → CountsOne old new it → PutsOnce old new (status_after status it)
      counts_at old new (Ok tt) counts = puts_whole old new status counts
      counts_at old new (Err sink.Failed) counts = puts_failed old new _ counts
      counts_at None new (Err sink.OutOfMemory) counts = inl tt
      counts_at (Some old) new (Err sink.OutOfMemory) (inl goes) = inl goes
      counts_at (Some old) new (Err sink.OutOfMemory) (inr stays) = inr (refl, stays)
