use Rattle.std.proofs.Common.{◌≡◌, map, take}
use Rattle.esto_query.specs.Trails.{with_trail, Narrows, Grew}
use Rattle.esto_query.proofs.trail.bind_row.Given as goal

abbrev pub invariant-loop-at : goal.invariant-loop-at
invariant-loop-at l = record {
  grown : Grew l.fn.trail.items l.trail.items;
  narrowed : Narrows (with_trail l.start l.fn.trail.items) (with_trail l.start l.trail.items) (λ m. map m (take l.at l.terms) ≡ take l.at l.targets);
}
