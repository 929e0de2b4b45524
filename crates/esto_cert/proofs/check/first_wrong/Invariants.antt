use Rattle.std.proofs.Common.{◌≡◌, ◌⊎◌, ◌<◌, ◌+◌, ℕ, Option, [], drop, map, length}
use Rattle.esto_cert.specs.Judging.{case_of, Verdict}
use Rattle.esto_cert.proofs.check.first_wrong.Given as goal

abbrev pub invariant-lines : goal.invariant-lines
invariant-lines l =
    ((verdict : Option ℕ) → Verdict (case_of l.case) l.claims (l.place + 1) (map (λ part. part.now) (drop l.place l.parts)) verdict
    → Verdict (case_of l.case) [] 1 (map (λ part. part.now) l.parts) verdict)
    × ((l.place ≡ 0) ⊎ (l.place < length l.parts))
