use Rattle.std.proofs.Common.{ap, ◌∙◌}
use Rattle.std.specs.FinMap.{insert}
use Rattle.esto_core.proofs.FixingLemmas.{fixing-variable}
use Rattle.esto_core.proofs.left.fix.Goals as goal

pub returns-in_ok-bind-in-Plain : goal.returns-in_ok-bind-in-Plain
returns-in_ok-bind-in-Plain c = λ terms is.
    fixing-variable terms c.args.start.now is c.bind.new.self c.in-Plain.variable
    (c.in_ok-bind-in-Plain.ensures.ok ∙ ap (insert c.args.start.now c.in-Plain.variable) (c.in_ok-copy-in-Plain.ensures ∙ c.in-Plain.is))
    c.args.term.now c.in-Plain.is
