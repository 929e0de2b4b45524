use Rattle.std.proofs.Common.{List, [], length, subst}
use Rattle.esto_constraint.specs.Graphs.{AreRanks}
use Rattle.esto_constraint.specs.Relations.{IsEdge}
use Rattle.esto_query.specs.Schemas.{IsSchema}
use Rattle.esto_query.specs.declared.schema.Relation.{Relation}
use Rattle.esto_bench.proofs.CatalogueLemmas.{made_sound}
use Rattle.esto_bench.proofs.catalogue.made_catalogue.Goals as goal

pub invariant_of-result : goal.invariant_of-result
invariant_of-result c =
    let found = c.in_ok-schema in
    let named = c.in_ok-datasets in
    let stored = c.in_ok-fragments in
    let ranks_are = subst (λ (it : List Relation). AreRanks (IsEdge []) (length it) found.ranks) found.ensures.schema found.ensures.ranks in
    record {
      sound = ∣ made_sound c.args.size c.requires (subst IsSchema found.ensures.schema c.len-count.ensures.schema) stored.fragments
          stored.ensures.fragments found.ranks ranks_are found.schema named.words named.datasets stored.stores c.new-rules.result
          found.ensures.schema named.ensures.words named.ensures.datasets stored.ensures.stores c.new-rules.ensures ∣₁;
    }
