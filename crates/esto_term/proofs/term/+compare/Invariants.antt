use Rattle.std.proofs.Common.{◌≡◌, ◌≤◌, drop, length}
use Rattle.std.specs.Cmp.Lexicographic.{slice_cmp}
use Rattle.esto_term.specs.Order.{term_cmp}
use Rattle.esto_term.proofs.term.+compare.Given as goal

-- the walk is not past the other list, and the rests compare as the whole lists do
abbrev pub invariant-compare_terms-terms : goal.invariant-compare_terms-terms
invariant-compare_terms-terms l = record {
  within : l.place ≤ length l.others;
  rests : slice_cmp term_cmp (drop l.place l.terms) (drop l.place l.others) ≡ slice_cmp term_cmp l.terms l.others;
}
