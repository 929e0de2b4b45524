use Rattle.std.proofs.Common.{length, ap}
use Rattle.esto_bench.proofs.CaseLemmas.{view_sound}
use Rattle.esto_bench.proofs.fragments.view_of.Goals as goal

pub invariant_of-result : goal.invariant_of-result
invariant_of-result c = record {
  sound = ∣ view_sound c.args.relation c.in_ok-head.head c.in_ok-body.body c.in_ok-names.names c.in_ok-head.ensures c.in_ok-body.ensures
      (ap length c.in_ok-names.ensures) ∣₁;
}
