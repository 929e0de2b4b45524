use Rattle.std.proofs.Common.{◌++◌}
use Rattle.esto_condchase.specs.Ways.{AreSupports, IsTold, meets}
use Rattle.esto_condchase.proofs.passing.through_row.Given as goal

abbrev pub invariant-row : goal.invariant-row
invariant-row l = AreSupports l.step.known.now (meets l.step.from.now l.step.terms.now l.step.to.now l.step.owns.now) l.step.terms.now l.step.owns.now
    l.at l.floor (IsTold l.step.known.now l.step.sides l.step.places.now l.kept (l.step.to.now ++ l.step.owns.now)) l.fn.start l.index l.supports
