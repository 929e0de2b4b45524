use Rattle.std.proofs.Common.{◌≡◌, ◌++◌, ℕ, take, Contains, slice_get}
use Rattle.esto_known.proofs.kept.agree_at.Given as goal

-- at the places so far the rows are the same
abbrev pub invariant-places : goal.invariant-places
invariant-places l = (place : ℕ) → Contains (take l.place-index l.places) place → slice_get l.row place ≡ slice_get (l.to ++ l.owns) place
