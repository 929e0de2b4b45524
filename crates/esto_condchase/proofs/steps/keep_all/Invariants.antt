use Rattle.std.proofs.Common.{◌≡◌, ◌++◌, take, Contains}
use Rattle.esto_condchase.specs.Ways.{Grown, IsTold, extended}
use Rattle.esto_known.specs.KeptWays.{AreCounted}
use Rattle.esto_condchase.specs.declared.passing.Support.{Support}
use Rattle.esto_known.specs.declared.way.Way.{Way}
use Rattle.esto_condchase.proofs.steps.keep_all.Given as goal

abbrev pub invariant-supports : goal.invariant-supports
invariant-supports l = record {
  grown : Grown (λ (way : Way). (support : Support) × Contains l.supports support × (way ≡ extended l.before l.place l.step.owns.now support)) l.fn.kept l.kept;
  there : (support : Support) → Contains (take l.support-index l.supports) support
      → IsTold l.step.known.now l.step.sides l.step.places.now l.kept (l.step.to.now ++ l.step.owns.now) support.product;
  counted : AreCounted l.count l.kept;
}
