-- A sink in memory.
use Rattle.std.specs.Prelude.{◌≡◌, ◌⊎◌, ◌==◌, ℕ, Bool, true, false, List, ◌++◌, take, Option, None, Some, Result, Ok, Err, refl}
use Rattle.std.specs.List.{list_any}
use Rattle.std.specs.Ordering.{nat_cmp}
use Rattle.std.specs.Coded.{Coded, code_by, coded×, coded_ℕ, coded_list}
use Rattle.std.specs.FinMap as map
use Rattle.esto_ports.specs.Faults.{next_count}
use Rattle.esto_ports.specs.declared.ports.SinkError.{SinkError}
use Rattle.esto_ports.specs.declared.ports.SinkError.TheVariants.{Failed, OutOfMemory}

-- What was written, how many bytes each call that is to fail keeps, the calls that are to be refused, and how many calls, faults and puts there were.
pub record SinkState : Type 0 where
  pub written : List ℕ
  pub fails : map.FinMap nat_cmp ℕ
  pub refuses : List ℕ
  pub calls : ℕ
  pub faults : ℕ
  pub puts : ℕ

-- The state as a value of a model.
abbrev pub sink_code : Coded SinkState
sink_code =
    code_by (List ℕ × (map.FinMap nat_cmp ℕ × (List ℕ × (ℕ × (ℕ × ℕ)))))
    (coded× (coded_list coded_ℕ) (coded× (map.code {R = nat_cmp} coded_ℕ coded_ℕ) (coded× (coded_list coded_ℕ) (coded× coded_ℕ (coded× coded_ℕ coded_ℕ)))))
    (λ s. (s.written, (s.fails, (s.refuses, (s.calls, (s.faults, s.puts))))))
    (λ p. record { written = p.0; fails = p.1.0; refuses = p.1.1.0; calls = p.1.1.1.0; faults = p.1.1.1.1.0; puts = p.1.1.1.1.1 }) (λ _. refl)

-- How many bytes the next call keeps, if it fails.
abbrev pub next_kept : SinkState → Option ℕ
next_kept s = map.get s.fails (next_count s.calls)

-- The next call is listed to be refused.
abbrev pub is_refused : SinkState → Bool
is_refused s = list_any (λ c. c == next_count s.calls) s.refuses

-- The state after a put of these bytes, which was one more call.
abbrev pub after_call : SinkState → List ℕ → SinkState
after_call s bytes = record s { calls = next_count s.calls; puts = next_count s.puts; written = s.written ++ bytes }

-- Where the call fails, Failed comes, also where it is listed to be refused, and what it keeps was put. Else all bytes were put, and the call is not
-- listed to be refused. Where memory is wanting, nothing was put; a call that is refused by the list alone is not counted as a put.
abbrev pub AfterPut : SinkState → List ℕ → Result (Unit {0}) SinkError → SinkState → Type 0
AfterPut s bytes (Ok _) new = (next_kept s ≡ None) × (is_refused s ≡ false) × (new ≡ after_call s bytes)
AfterPut s bytes (Err Failed) new =
    (kept : ℕ) × (next_kept s ≡ Some kept) × (new ≡ record (after_call s (take kept bytes)) { faults = next_count s.faults })
AfterPut s bytes (Err OutOfMemory) new =
    ((next_kept s ≡ None) × (is_refused s ≡ true) × (new ≡ record s { calls = next_count s.calls }))
    ⊎ (new ≡ record s { calls = next_count s.calls; puts = next_count s.puts })
