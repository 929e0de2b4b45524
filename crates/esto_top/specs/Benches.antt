-- What is said of an outcome of `bench`.
use Rattle.std.specs.Prelude.{◌≡◌, ℕ, true, List, [], ◌∷◌, codes}
use Rattle.esto_bench.specs.Summary.{IsSummaryOfCase, summary_text}
use Rattle.esto_bench.specs.declared.summary.Summary.{Summary}
use Rattle.esto_top.specs.Call.{Call, HoldsOfPut}
use Rattle.esto_top.specs.Grammar.{is_made_size, value_of}
use Rattle.esto_status.specs.declared.status.Status.{Status}
use Rattle.esto_status.specs.declared.status.Status.TheVariants as status

-- The status is Done, and the text the summary of the made case of the size.
abbrev pub IsExactBench : ℕ → Status → List ℕ → Type 0
IsExactBench size said text = (said ≡ status.Done) × (summary : Summary) × IsSummaryOfCase size summary × (text ≡ summary_text summary)

-- What `bench N` puts is the summary of the made case of that size, or memory was refused and nothing put, over every shelf, where the sink's count did not
-- rise.
abbrev pub BenchesAlways : Call → Type 0
BenchesAlways call =
    ¬ call.sink_rose → (word : List ℕ) → is_made_size word ≡ true → call.words ≡ codes "bench" ∷ word ∷ [] → HoldsOfPut (IsExactBench (value_of word)) call
