use Rattle.esto_known.proofs.TurnLemmas.{turns_moved}
use Rattle.esto_known.proofs.turns.turns_of.Goals as goal

pub returns : goal.returns
returns c = turns_moved _ c.in_ok-turns.turns.items c.sort_by.new.self.items c.in_ok-sort_by.ensures.permutation c.in_ok-turns.ensures
