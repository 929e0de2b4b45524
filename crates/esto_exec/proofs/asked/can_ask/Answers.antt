use Rattle.std.proofs.Common.{sym, ◌∙◌}
use Rattle.std.proofs.lemmas.Bool.{false≢true}
use Rattle.esto_exec.proofs.TurnLemmas.{is_in-from}
use Rattle.esto_exec.proofs.asked.can_ask.Goals as goal

pub returns-clause-fresh : goal.returns-clause-fresh
returns-clause-fresh c = λ _ inside.
    false≢true (sym c.if-is_in.false ∙ c.is_in.ensures ∙ is_in-from c.args.so_far.now.done c.args.number inside)
