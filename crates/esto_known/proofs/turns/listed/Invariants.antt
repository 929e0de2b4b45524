use Rattle.esto_known.specs.Turns.{AreTurnsOf}
use Rattle.esto_known.proofs.turns.listed.Given as goal

-- the places so far have turns
abbrev pub invariant-entries : goal.invariant-entries
invariant-entries l = AreTurnsOf l.place l.turns.items
