use Rattle.esto_steps.specs.declared.steps.Source.TheVariants.{Code}
use Rattle.esto_steps.proofs.AskedLemmas.{inputs_turn}
use Rattle.esto_steps.proofs.asked.inputs_of.Goals as goal

pub links-preserved : goal.links-preserved
links-preserved c =
    inputs_turn c.args.links.now c.items-link-items.result.now c.args.codes.now c.links.inputs c.push.new.self c.links.at
    (record { column = 0; source = Code 0 }) c.items-link-items.ensures c.requires c.links-test.true c.links.invariant c.in_ok-push.ensures.ok
