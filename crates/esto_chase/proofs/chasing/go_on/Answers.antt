use Rattle.std.proofs.Common.{length, List}
use Rattle.esto_constraint.specs.Constraints.{rules_of}
use Rattle.esto_instance.specs.Instances.{state_of}
use Rattle.std.proofs.Common.{refl, subst, arith}
use Rattle.std.specs.Prelude.{slice_index}
use Rattle.esto_term.specs.declared.term.Term.{Term}
use Rattle.esto_semantics.specs.declared.fact.Fact.{Fact}
use Rattle.esto_semantics.specs.Rules.{AreMet}
use Rattle.esto_chase_laws.specs.Runs.{HasClashed}
use Rattle.esto_chase.specs.Next.{IsNextFound}
use Rattle.esto_chase.specs.Steps.{IsTaken}
use Rattle.std.proofs.lemmas.Option.{MatchOption-at_none}
use Rattle.esto_chase.proofs.ChaseLemmas.{run-begun, run-went, fewer_left}
use Rattle.esto_constraint.proofs.RankLemmas.{rules-AreRules, ranks-RanksRise, depth_of, ranks-small, depth-small}
use Rattle.esto_chase.proofs.chasing.go_on.Goals as goal

pub steps-init : goal.steps-init
steps-init c = run-begun (rules_of c.args.rules.now) (state_of c.args.instance.now) c.args.instance.now refl c.requires.trace

pub returns-in_default : goal.returns-in_default
returns-in_default c = record {
  run = c.steps.invariant;
  finished = subst (λ (facts : List (Fact Term)). AreMet facts (rules_of c.args.rules.now)) c.facts.ensures
      (MatchOption-at_none (AreMet c.facts.result.now (rules_of c.args.rules.now))
      (λ broken. IsNextFound (rules_of c.args.rules.now) c.facts.result.now broken.rule broken.found.valuation broken.found.places)
      c.in_default.is c.in_ok-outcome.ensures);
}

pub steps-smaller : goal.steps-smaller
steps-smaller c = fewer_left (rules_of c.args.rules.now) (state_of c.args.instance.now) (depth_of c.args.ranks.now)
    (c.runs_end.ensures (rules_of c.args.rules.now) (state_of c.args.instance.now) (slice_index c.args.ranks.now) (depth_of c.args.ranks.now)
    (rules-AreRules c.args.rules.now c.rules_are_sound.ensures.rules) c.requires.start
    (ranks-RanksRise (rules_of c.args.rules.now) c.args.ranks.now
    (c.ranks_rise.ensures.rise (rules_of c.args.rules.now) (length c.args.ranks.now) c.args.ranks.now c.requires.within c.requires.ranks))
    (ranks-small c.args.ranks.now
    (c.ranks_rise.ensures.small (rules_of c.args.rules.now) (length c.args.ranks.now) c.args.ranks.now c.requires.within c.requires.ranks))
    (depth-small c.args.ranks.now c.len-count.result c.len-count.ensures (omega (arith, c.len-count.type_inv))))
    c.steps.instance c.take_step.new.instance c.steps.invariant
    (MatchOption-at_none (IsTaken (rules_of c.args.rules.now) c.steps.instance c.take_step.new.instance)
    (HasClashed (rules_of c.args.rules.now) (state_of c.steps.instance)) c.in_default-clashed.is c.in_ok-clashed.ensures)

pub steps-preserved : goal.steps-preserved
steps-preserved c = run-went (rules_of c.args.rules.now) (state_of c.args.instance.now) c.steps.instance c.take_step.new.instance c.steps.invariant
    (MatchOption-at_none (IsTaken (rules_of c.args.rules.now) c.steps.instance c.take_step.new.instance)
    (HasClashed (rules_of c.args.rules.now) (state_of c.steps.instance)) c.in_default-clashed.is c.in_ok-clashed.ensures)
