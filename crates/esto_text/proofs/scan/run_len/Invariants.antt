use Rattle.std.proofs.Common.{ℕ, ◌<◌, slice_index}
use Rattle.esto_text.specs.Gaps.{IsIn}
use Rattle.esto_text.proofs.scan.run_len.Given as goal

abbrev pub invariant-bytes : goal.invariant-bytes
invariant-bytes l = (k : ℕ) → k < l.at → IsIn l.class (slice_index l.bytes k)
