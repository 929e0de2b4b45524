use Rattle.std.proofs.Common.{length}
use Rattle.esto_constraint.specs.Constraints.{rules_of}
use Rattle.esto_instance.specs.Instances.{state_of, trace_of, steps_of}
use Rattle.std.specs.Prelude.{slice_index}
use Rattle.std.proofs.lemmas.Result.{IfOk-weaker}
use Rattle.esto_chase.proofs.ChaseLemmas.{nothing-unsatisfiable}
use Rattle.esto_constraint.proofs.RankLemmas.{rules-AreRules, ranks-RanksRise}
use Rattle.esto_chase.proofs.OutcomeLemmas.{on_either}
use Rattle.esto_chase.proofs.chasing.chase.Goals as goal

-- src/chasing.rt:71:1
pub returns-clause-received : goal.returns-clause-received
returns-clause-received c = IfOk-weaker c.run.result _ _ (λ outcome. on_either outcome
    (λ chased finished. c.states_are_received.ensures
    (rules_of c.args.rules.now) (state_of c.args.start) (rules-AreRules c.args.rules.now c.rules_are_sound.ensures.rules) c.requires.start
    (steps_of (trace_of chased.instance)) (state_of chased.instance) finished.run)
    (λ clash clashed. c.clashes_receive_nothing.ensures
    (rules_of c.args.rules.now) (state_of c.args.start) (rules-AreRules c.args.rules.now c.rules_are_sound.ensures.rules) c.requires.start
    clashed.0 clashed.1 clashed.2 clash clashed.3)) c.run.ensures

-- src/chasing.rt:71:1
pub returns-clause-satisfiable : goal.returns-clause-satisfiable
returns-clause-satisfiable c = IfOk-weaker c.run.result _ _ (λ outcome. on_either outcome
    (λ chased finished. c.finished_runs_decide.ensures.satisfiable
    (rules_of c.args.rules.now) (state_of c.args.start) (rules-AreRules c.args.rules.now c.rules_are_sound.ensures.rules) c.requires.start
    (steps_of (trace_of chased.instance)) (state_of chased.instance) finished.run finished.finished)
    (λ clash clashed. nothing-unsatisfiable (rules_of c.args.rules.now) (state_of c.args.start) (c.clashes_receive_nothing.ensures
    (rules_of c.args.rules.now) (state_of c.args.start) (rules-AreRules c.args.rules.now c.rules_are_sound.ensures.rules) c.requires.start
    clashed.0 clashed.1 clashed.2 clash clashed.3))) c.run.ensures

-- src/chasing.rt:71:1
pub returns-clause-universal : goal.returns-clause-universal
returns-clause-universal c = IfOk-weaker c.run.result _ _ (λ outcome. on_either outcome
    (λ chased finished. c.states_are_universal.ensures.start
    (rules_of c.args.rules.now) (state_of c.args.start) (rules-AreRules c.args.rules.now c.rules_are_sound.ensures.rules) c.requires.start
    (steps_of (trace_of chased.instance)) (state_of chased.instance) finished.run)
    (λ clash clashed. tt)) c.run.ensures

-- src/chasing.rt:71:1
pub returns-clause-nested : goal.returns-clause-nested
returns-clause-nested c = IfOk-weaker c.run.result _ _ (λ outcome. on_either outcome
    (λ chased finished. c.terms_nest_within_ranks.ensures (rules_of c.args.rules.now) (state_of c.args.start) (slice_index c.args.ranks.now)
    (rules-AreRules c.args.rules.now c.rules_are_sound.ensures.rules) c.requires.start
    (ranks-RanksRise (rules_of c.args.rules.now) c.args.ranks.now
    (c.ranks_rise.ensures.rise (rules_of c.args.rules.now) (length c.args.ranks.now) c.args.ranks.now c.requires.within c.requires.ranks))
    (steps_of (trace_of chased.instance)) (state_of chased.instance) finished.run)
    (λ clash clashed. tt)) c.run.ensures
