use Rattle.std.proofs.Common.{sym, ◌∙◌}
use Rattle.std.proofs.lemmas.Bool.{false≢true}
use Rattle.esto_exec.proofs.TurnLemmas.{is_in-from}
use Rattle.esto_exec.proofs.turns.take_if_ready.Goals as goal

pub take_turn-requires-clause-fresh : goal.take_turn-requires-clause-fresh
take_turn-requires-clause-fresh g c = λ inside.
    false≢true (sym c.if-is_in.false ∙ c.is_in.ensures ∙ is_in-from c.args.so_far.now.done c.args.number inside)
