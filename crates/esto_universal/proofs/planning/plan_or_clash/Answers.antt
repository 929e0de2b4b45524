use Rattle.std.proofs.Common.{length, sym, subst}
use Rattle.std.proofs.lemmas.Result.{IfOk-weaker}
use Rattle.esto_chase.proofs.OutcomeLemmas.{on_either}
use Rattle.esto_query.specs.Making.{query_of}
use Rattle.esto_constraint.specs.Constraints.{rules_of}
use Rattle.esto_chase_laws.specs.Runs.{IsStart}
use Rattle.esto_chase.specs.Chased.{RunClashes}
use Rattle.esto_instance.specs.Instances.{state_of}
use Rattle.esto_views.specs.Fragments.{views_of}
use Rattle.esto_constraint.proofs.RuleLemmas.{are_rules}
use Rattle.esto_universal.proofs.PlannedLemmas.{within_ranks, ranks_of_all, head_of_end, planned_from}
use Rattle.esto_universal.proofs.planning.plan_or_clash.Goals as goal

pub chase-requires-clause-start : goal.chase-requires-clause-start
chase-requires-clause-start c =
    subst IsStart (sym c.in_ok-start.ensures.state)
    (c.queries_have_starts.ensures.start (query_of c.args.query.now) (c.queries_are_sound.ensures c.args.query.now).query)

pub chase-requires-clause-within : goal.chase-requires-clause-within
chase-requires-clause-within c =
    let it = c.args.catalogue.now in
    let sound = c.catalogues_are_sound.ensures it in
    within_ranks (rules_of it.rules) (length it.schema) it.ranks sound.within sound.ranks_are

pub chase-requires-clause-ranks : goal.chase-requires-clause-ranks
chase-requires-clause-ranks c =
    let it = c.args.catalogue.now in
    let sound = c.catalogues_are_sound.ensures it in
    ranks_of_all (rules_of it.rules) (length it.schema) it.ranks sound.ranks_are

pub plan_of_end-requires : goal.plan_of_end-requires
plan_of_end-requires c =
    let rules = c.args.catalogue.now.rules in
    let query = c.args.query.now in
    head_of_end c.heads_go_along.ensures.heads c.queries_have_starts.ensures.start (rules_of rules) (query_of query) (state_of c.in_ok-start.start)
    c.in-Left.chased.instance (are_rules c.rules_are_sound.ensures.rules rules) (c.queries_are_sound.ensures query).query
    c.in_ok-start.ensures.state (rw c.in-Left.is at c.in_ok-outcome.ensures.run)

pub returns-in-Left : goal.returns-in-Left
returns-in-Left c =
    let it = c.args.catalogue.now in
    let query = c.args.query.now in
    let run = rw c.in-Left.is at c.in_ok-outcome.ensures.run in
    IfOk-weaker c.plan_of_end.result _ _
    (λ outcome planned. on_either outcome
    (λ plan stated. planned_from (rules_of it.rules) (views_of it.fragments) query.names (query_of query) (state_of c.in_ok-start.start)
    c.in-Left.chased.instance plan c.in_ok-start.ensures.state run stated)
    (λ clash never. absurd never) planned)
    c.plan_of_end.ensures

pub returns-in-Right : goal.returns-in-Right
returns-in-Right c =
    subst (λ start. RunClashes (rules_of c.args.catalogue.now.rules) start c.in-Right.clash) c.in_ok-start.ensures.state
    (rw c.in-Right.is at c.in_ok-outcome.ensures.run)
