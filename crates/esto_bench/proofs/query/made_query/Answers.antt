use Rattle.esto_bench.proofs.CaseLemmas.{chain_sound}
use Rattle.esto_bench.proofs.query.made_query.Goals as goal

pub invariant_of-result : goal.invariant_of-result
invariant_of-result c = record {
  sound = ∣ chain_sound (λ relation. relation) c.args.size c.requires.some c.in_ok-head.head c.in_ok-body.body c.in_ok-names.names c.in_ok-head.ensures
      c.in_ok-body.ensures c.in_ok-names.ensures ∣₁;
}
