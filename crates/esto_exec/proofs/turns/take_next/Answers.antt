use Rattle.std.proofs.Common.{sym, ◌∙◌, arith}
use Rattle.std.proofs.lemmas.Bool.{false≢true}
use Rattle.std.proofs.lemmas.Result.{on_ok_weaker}
use Rattle.esto_exec.proofs.TurnLemmas.{is_in-from, in_is}
use Rattle.esto_exec.proofs.UnderWayLemmas.{next_ready, before_more, before_same}
use Rattle.esto_exec.proofs.turns.take_next.Goals as goal

pub returns-then-is_in-clause-before : goal.returns-then-is_in-clause-before
returns-then-is_in-clause-before g c =
    before_same c.args.so_far.now.done c.args.number (in_is c.args.so_far.now.done c.args.number (sym c.is_in.ensures ∙ c.if-is_in.true)) c.requires.before

pub take_turn-requires-clause-fresh : goal.take_turn-requires-clause-fresh
take_turn-requires-clause-fresh g c = λ inside.
    false≢true (sym c.if-is_in.false ∙ c.is_in.ensures ∙ is_in-from c.args.so_far.now.done c.args.number inside)

pub take_turn-requires-clause-ready : goal.take_turn-requires-clause-ready
take_turn-requires-clause-ready g c = λ get there.
    next_ready c.args.steps.now.arities.now c.args.so_far.now.done get c.args.number
    (let long = c.requires.arities.long in let below = c.requires.there in omega (arith, long, below)) c.requires.before

pub returns-clause-before : goal.returns-clause-before
returns-clause-before g c = on_ok_weaker c.take_turn.result
    (λ is. before_more c.args.so_far.now.done c.take_turn.new.so_far.done c.args.number is c.requires.before) c.take_turn.ensures.done
