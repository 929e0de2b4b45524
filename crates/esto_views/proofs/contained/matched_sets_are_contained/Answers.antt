use Rattle.esto_views.proofs.ContainedLemmas.{matched_contained}
use Rattle.esto_views.proofs.contained.matched_sets_are_contained.Goals as goal

pub returns : goal.returns
returns c =
    matched_contained c.matches_rest_on_atoms.ensures c.chosen_atoms_are_named.ensures c.matches_decide_containment.ensures.shown
    c.an_expansion_means_the_same.ensures.answers c.an_expansion_of_a_plan_expands_its_candidates.ensures
