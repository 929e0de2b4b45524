use Rattle.std.proofs.Common.{◌∙◌, ap, []}
use Rattle.esto_steps.proofs.asked.ask_all.Goals as goal

pub ask_each-requires-clause-unseen : goal.ask_each-requires-clause-unseen
ask_each-requires-clause-unseen g c = c.in_ok-seen.ensures ∙ ap (λ arity. record { arity = arity; rows = [] }) c.len.ensures
