use Rattle.esto_exec.proofs.HubLemmas.{turned_at}
use Rattle.esto_exec.proofs.hubs.turn_at.Goals as goal

pub returns : goal.returns
returns c = turned_at c.args.equations.now c.in_ok-equations.field-0 c.args.index c.item.result.now c.in-Held.hub c.item.ensures c.in-Held.is
    c.in_ok-equations.ensures
