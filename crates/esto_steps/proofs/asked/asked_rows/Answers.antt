use Rattle.std.proofs.Common.{◌∙◌, ap, []}
use Rattle.esto_steps.proofs.asked.asked_rows.Goals as goal

pub ask_all-requires-clause-none : goal.ask_all-requires-clause-none
ask_all-requires-clause-none g c = c.in_ok-asked.ensures ∙ ap (λ arity. record { arity = arity; rows = [] }) c.arity.ensures.value
