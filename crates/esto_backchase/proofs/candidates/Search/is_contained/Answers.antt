use Rattle.std.proofs.Common.{◌<◌, sym, subst}
use Rattle.std.proofs.lemmas.Result.{IfOk-weaker}
use Rattle.esto_constraint.specs.Graphs.{AreRanks, IsWithin}
use Rattle.esto_constraint.specs.Relations.{IsEdge}
use Rattle.esto_chase_laws.specs.Runs.{IsStart}
use Rattle.esto_constraint.specs.Constraints.{rules_of}
use Rattle.esto_query.specs.Making.{query_of}
use Rattle.esto_instance.specs.Instances.{state_of}
use Rattle.esto_constraint.proofs.RankLemmas.{rules-AreRules}
use Rattle.esto_backchase.proofs.CandidateLemmas.{chosen-starts, contained-received}
use Rattle.esto_backchase.proofs.candidates.Search.is_contained.Goals as goal

pub start_for-requires : goal.start_for-requires
start_for-requires c = λ fact inside.
    subst (λ count. fact.atom < count) (sym c.requires.count) ((c.requires.search.expands.exact fact).0 inside).0

pub chase-requires-clause-start : goal.chase-requires-clause-start
chase-requires-clause-start c =
    let it = c.args.self.now in
    subst IsStart (sym c.in_ok-start.ensures.state)
    (chosen-starts it.plan.now it.catalogue.now.fragments it.expanded.now c.requires.search.expands c.args.set.now c.requires.count
    c.queries_have_starts.ensures.body c.requires.search.flat (c.plans_are_sound.ensures it.plan.now))

pub chase-requires-clause-within : goal.chase-requires-clause-within
chase-requires-clause-within c =
    let sound = c.catalogues_are_sound.ensures c.args.self.now.catalogue.now in
    subst (λ count. IsWithin count (IsEdge (rules_of c.args.self.now.catalogue.now.rules))) (sym sound.ranks_are.for_each) sound.within

pub chase-requires-clause-ranks : goal.chase-requires-clause-ranks
chase-requires-clause-ranks c =
    let sound = c.catalogues_are_sound.ensures c.args.self.now.catalogue.now in
    subst (λ count. AreRanks (IsEdge (rules_of c.args.self.now.catalogue.now.rules)) count c.args.self.now.catalogue.now.ranks)
    (sym sound.ranks_are.for_each) sound.ranks_are

pub returns : goal.returns
returns c =
    let it = c.args.self.now in
    let rules = rules_of it.catalogue.now.rules in
    let contained = contained-received it.plan.now it.catalogue.now.fragments it.expanded.now c.requires.search.expands c.args.set.now c.requires.count
    c.queries_have_starts.ensures.body rules (query_of it.query.now) c.an_expansion_of_a_plan_expands_its_candidates.ensures
    c.an_expansion_means_the_same.ensures.contained c.an_expansion_means_the_same.ensures.answers
    (rules-AreRules it.catalogue.now.rules c.rules_are_sound.ensures.rules) (state_of c.in_ok-start.start) c.in_ok-start.ensures.state c.in_ok-outcome.outcome
    c.in_ok-outcome.ensures.run c.in_ok-outcome.ensures.universal c.in_ok-outcome.ensures.satisfiable in
    IfOk-weaker c.is_received-answer.result _ _ (λ _ received. (λ holds. contained.0 (received.0 holds), λ is. received.1 (contained.1 is)))
    c.is_received-answer.ensures
