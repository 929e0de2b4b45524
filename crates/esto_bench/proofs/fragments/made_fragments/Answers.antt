use Rattle.esto_bench.proofs.FragmentLemmas.{fragments_more}
use Rattle.esto_bench.proofs.fragments.made_fragments.Goals as goal

pub relations-preserved : goal.relations-preserved
relations-preserved c =
    fragments_more c.relations.relation c.relations.fragments c.add_both.new.fragments c.relations.invariant c.in_ok-add_both.ensures
