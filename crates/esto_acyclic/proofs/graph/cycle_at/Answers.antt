use Rattle.std.proofs.Common.{length, sym, ap, ◌∙◌, subst}
use Rattle.esto_constraint.specs.Graphs.{Joins, IsWithin}
use Rattle.esto_acyclic.specs.Rounds.{AreDistances}
use Rattle.esto_acyclic.proofs.graph.cycle_at.Goals as goal

pub cycle_by_distances-requires-clause-within : goal.cycle_by_distances-requires-clause-within
cycle_by_distances-requires-clause-within c =
    subst (λ count. IsWithin count (Joins c.args.edges.now)) (sym (ap length c.as_slice.ensures.value ∙ c.in_ok-distances.ensures.same)) c.requires.within

pub cycle_by_distances-requires-clause-exact : goal.cycle_by_distances-requires-clause-exact
cycle_by_distances-requires-clause-exact c =
    subst (AreDistances (Joins c.args.edges.now) c.args.start) (sym c.as_slice.ensures.value) c.in_ok-distances.ensures.exact
