use Rattle.esto_top.proofs.below.bench_laws_hold.Goals as goal

pub returns : goal.returns
returns c = record {
  own = c.queries_are_their_own_instances.ensures.universal;
  receives = c.plans_of_runs_are_universal.ensures.unions;
  universal = c.plans_of_runs_are_universal.ensures.universal;
  stated = c.rewritings_without_inputs.ensures.stated;
  none = c.listed_sets_are_minimal.ensures.no_rewriting;
}
