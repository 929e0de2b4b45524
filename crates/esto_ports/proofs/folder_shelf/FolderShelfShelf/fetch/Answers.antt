use Rattle.std.proofs.Common.{◌<◌, ◌≤◌, length, ap, inr, refl, subst, sym, ◌∙◌}
use Rattle.esto_ports.specs.Faults.{next_count}
use Rattle.esto_ports.proofs.CallLemmas.{rose}
use Rattle.esto_ports.proofs.folder_shelf.FolderShelfShelf.fetch.Goals as goal

pub returns-then-self-clause-answer : goal.returns-then-self-clause-answer
returns-then-self-clause-answer g c = inr (sym c.self.view_is ∙ c.if-self.true)

pub returns-then-bytes-limit-clause-answer : goal.returns-then-bytes-limit-clause-answer
returns-then-bytes-limit-clause-answer g c = (refl, (c.in-Ok.bytes, tt, subst (λ it. c.args.limit < length it) c.bytes-in-Ok.ensures c.if-bytes-limit.true))

pub returns-else-bytes-limit-clause-answer : goal.returns-else-bytes-limit-clause-answer
returns-else-bytes-limit-clause-answer g c = (tt, subst (λ it. length it ≤ c.args.limit) c.bytes-in-Ok.ensures c.if-bytes-limit.false)

pub returns-in-Err-Fault-clause-answer : goal.returns-in-Err-Fault-clause-answer
returns-in-Err-Fault-clause-answer g c = rose (c.saturating_add-self-inside.ensures ∙ ap next_count c.self.view_is)
