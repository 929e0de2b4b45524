use Rattle.std.proofs.Common.{ap, ◌∙◌}
use Rattle.std.proofs.lemmas.Result.{on_ok_weaker}
use Rattle.esto_chase_laws.specs.Joined.{joined}
use Rattle.esto_instance.specs.Instances.{state_of}
use Rattle.esto_chase.proofs.steps.add_made.Goals as goal

pub returns-clause-facts : goal.returns-clause-facts
returns-clause-facts c =
    on_ok_weaker c.add.result (λ grown. grown ∙ ap (joined (state_of c.args.instance.now).body) c.in_ok-facts.ensures) c.add.ensures.facts
