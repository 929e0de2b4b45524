use Rattle.std.proofs.Common.{sym, subst}
use Rattle.esto_query.specs.Making.{query_of}
use Rattle.esto_constraint.specs.Constraints.{rules_of}
use Rattle.esto_chase_laws.specs.Runs.{IsStart}
use Rattle.esto_chase.specs.Chased.{RunClashes}
use Rattle.esto_instance.specs.Instances.{state_of}
use Rattle.esto_contain.proofs.ToldLemmas.{finished_from}
use Rattle.esto_contain.proofs.ends.end_of.Goals as goal

pub chase-requires-clause-start : goal.chase-requires-clause-start
chase-requires-clause-start c =
    subst IsStart (sym c.in_ok-start.ensures.state)
    (c.queries_have_starts.ensures.start (query_of c.args.query.now) (c.queries_are_sound.ensures c.args.query.now).query)

pub chase-requires-clause-within : goal.chase-requires-clause-within
chase-requires-clause-within c = c.catalogues_rank_their_rules.ensures.within c.args.catalogue.now

pub chase-requires-clause-ranks : goal.chase-requires-clause-ranks
chase-requires-clause-ranks c = c.catalogues_rank_their_rules.ensures.ranks c.args.catalogue.now

pub returns-in-Left : goal.returns-in-Left
returns-in-Left c =
    finished_from (rules_of c.args.catalogue.now.rules) (query_of c.args.query.now) (state_of c.in_ok-start.start) c.in-Left.chased.instance
    c.in_ok-start.ensures.state (rw c.in-Left.is at c.in_ok-outcome.ensures.run)

pub returns-in-Right : goal.returns-in-Right
returns-in-Right c =
    subst (λ start. RunClashes (rules_of c.args.catalogue.now.rules) start c.in-Right.clash) c.in_ok-start.ensures.state
    (rw c.in-Right.is at c.in_ok-outcome.ensures.run)
