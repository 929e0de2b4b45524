use Rattle.esto_constraint.specs.Constraints.{rules_of}
use Rattle.esto_query.specs.Making.{query_of}
use Rattle.esto_semantics.specs.Rewritings.{IsPlanFor}
use Rattle.esto_views.specs.Plans.{plan_query}
use Rattle.esto_views.proofs.FlatLemmas.{plan_atoms-flat}
use Rattle.esto_constraint.proofs.RankLemmas.{rules-AreRules}
use Rattle.esto_condchase.proofs.EvidenceLemmas.{consistent}
use Rattle.esto_condchase.proofs.TellLemmas.{told, union_told}
use Rattle.esto_condchase.proofs.laws.entries_decide_answers.Goals as goal

pub returns : goal.returns
returns c = record {
  decide = λ fragments rules ranks query plan entries same_length universal satisfiable (expanded, exact, expands, are) set over.
      let sound_plan = c.plans_are_sound.ensures plan in
      let is_query = (c.queries_are_sound.ensures query).query in
      let is_plan : IsPlanFor (query_of query) (plan_query plan) = record
      { same_length = same_length; has_head = sound_plan.has_head; flat_body = plan_atoms-flat plan sound_plan } in
      let decided = told (rules_of rules) fragments _ plan expanded expands entries are
      (rules-AreRules rules c.rules_are_sound.ensures.rules) sound_plan
      c.an_expansion_of_a_plan_expands_its_candidates.ensures c.an_expansion_means_the_same.ensures.answers
      c.chosen_atoms_are_named.ensures c.matched_sets_are_contained.ensures set over
      (query_of query) is_query is_plan universal c.candidates_contain_the_query.ensures.equivalent
      c.matches_decide_containment.ensures.found satisfiable in
      (decided.1, decided.0);
  unions = λ fragments rules ranks queries plan entries (expanded, exact, expands, are) agree set over.
      union_told (rules_of rules) fragments _ plan expanded expands entries are
      (rules-AreRules rules c.rules_are_sound.ensures.rules) (c.plans_are_sound.ensures plan)
      c.an_expansion_of_a_plan_expands_its_candidates.ensures c.an_expansion_means_the_same.ensures.answers
      c.chosen_atoms_are_named.ensures c.matched_sets_are_contained.ensures set over
      (λ query. (c.queries_are_sound.ensures query).query) queries (agree set).0 (agree set).1;
  consistent = λ fragments rules ranks query plan entries satisfiable (expanded, exact, expands, are) receives.
      consistent (rules_of rules) fragments _ (query_of query) plan expanded expands entries are
      c.an_expansion_means_the_same.ensures.answers satisfiable receives;
}
