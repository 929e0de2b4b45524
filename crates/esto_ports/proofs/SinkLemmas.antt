-- A put of the sink in memory, seen in the parts of its state.
use Rattle.std.proofs.Common.{◌≡◌, ◌==◌, ◌++◌, ℕ, List, Bool, Option, sym, subst, ap, ◌∙◌}
use Rattle.std.specs.FinMap as map
use Rattle.std.specs.List.{list_any}
use Rattle.esto_ports.specs.Faults.{next_count}
use Rattle.esto_ports.specs.MemorySink.{SinkState, next_kept, is_refused, after_call}

-- a call of the sink that is seen as s, which was counted
module _ (s t : SinkState) (call : ℕ) (same : t ≡ s) (counts : call ≡ next_count t.calls) where
  -- how many bytes it keeps, if it fails, as its parts say
  pub kept_seen : {kept : Option ℕ} → kept ≡ map.get t.fails call → next_kept s ≡ kept
  kept_seen is = sym (is ∙ ap (map.get t.fails) counts ∙ ap next_kept same)

  -- whether it is listed to be refused, as its parts say
  pub listed_seen : {listed : Bool} {refuses : List ℕ} → refuses ≡ t.refuses → listed ≡ list_any (λ n. n == call) refuses → is_refused s ≡ listed
  listed_seen listing is =
      sym (is ∙ ap (λ calls. list_any (λ n. n == call) calls) listing ∙ ap (λ number. list_any (λ n. n == number) t.refuses) counts ∙ ap is_refused same)

  -- the state after a call that was refused by the list alone
  pub refused : record t { calls = call } ≡ record s { calls = next_count s.calls }
  refused = subst (λ u. record t { calls = call } ≡ record u { calls = next_count u.calls }) same (λ i. record t { calls = counts i })

  -- the state after a call that put all its bytes
  pub put_whole : (puts : ℕ) (bytes written : List ℕ) → puts ≡ next_count t.puts → written ≡ t.written ++ bytes
      → record t { calls = call; puts = puts; written = written } ≡ after_call s bytes
  put_whole puts bytes written more grows = subst (λ u. record t { calls = call; puts = puts; written = written } ≡ after_call u bytes) same
      (λ i. record t { calls = counts i; puts = more i; written = grows i })

  -- the state after a call that failed
  pub put_part : (puts : ℕ) (bytes written : List ℕ) (faults : ℕ) → puts ≡ next_count t.puts → written ≡ t.written ++ bytes → faults ≡ next_count t.faults
      → record t { calls = call; puts = puts; written = written; faults = faults } ≡ record (after_call s bytes) { faults = next_count s.faults }
  put_part puts bytes written faults more grows rises =
      subst (λ u. record t { calls = call; puts = puts; written = written; faults = faults } ≡ record (after_call u bytes) { faults = next_count u.faults })
      same (λ i. record t { calls = counts i; puts = more i; written = grows i; faults = rises i })
