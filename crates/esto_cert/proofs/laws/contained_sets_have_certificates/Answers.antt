use Rattle.esto_cert.proofs.CompleteLemmas.{complete}
use Rattle.esto_cert.proofs.laws.contained_sets_have_certificates.Goals as goal

pub returns : goal.returns
returns c =
    complete c.rules_are_sound.ensures.rules c.queries_are_sound.ensures c.plans_are_sound.ensures c.runs_reach_an_end.ensures
    c.states_are_universal.ensures.start c.clashes_receive_nothing.ensures c.an_expansion_means_the_same.ensures.answers
    c.an_expansion_means_the_same.ensures.contained c.an_expansion_of_a_plan_expands_its_candidates.ensures
