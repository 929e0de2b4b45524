use Rattle.std.proofs.Common.{◌++◌, ◌<◌, ℕ}
use Rattle.esto_condchase.specs.Ways.{Grown, IsTold, ComesBy, IsPassedAt, meets}
use Rattle.esto_known.specs.KeptWays.{AreCounted}
use Rattle.esto_condchase.proofs.steps.pass_anew.Given as goal

abbrev pub invariant-row : goal.invariant-row
invariant-row l = record {
  grown : Grown (ComesBy l.step.known.now l.step.from.now l.step.terms.now l.before l.place l.step.owns.now) l.fn.kept l.kept;
  there : (its : ℕ) → its < l.at → IsPassedAt l.step.known.now (meets l.step.from.now l.step.terms.now l.step.to.now l.step.owns.now) l.step.terms.now
      l.step.owns.now l.floor l.product (IsTold l.step.known.now l.step.sides l.step.places.now l.kept (l.step.to.now ++ l.step.owns.now)) its;
  counted : AreCounted l.count l.kept;
}
