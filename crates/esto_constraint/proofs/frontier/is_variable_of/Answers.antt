use Rattle.esto_constraint.proofs.FrontierLemmas.{variable-told}
use Rattle.esto_constraint.proofs.frontier.is_variable_of.Goals as goal

-- src/making.rt:19:1
pub returns-in-Plain : goal.returns-in-Plain
returns-in-Plain c = variable-told c.args.atoms.now c.args.term.now c.in-Plain.field-0 c.mentions.result c.in-Plain.is c.mentions.ensures
