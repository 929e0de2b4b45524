use Rattle.esto_fill.specs.Databases.{database_of}
use Rattle.esto_fill.proofs.DifferenceLemmas.{AreOneBelow}
use Rattle.esto_fill.proofs.auditing.apart_fragment.Given as goal

-- the fragments so far have their views' rows
abbrev pub invariant-fragments : goal.invariant-fragments
invariant-fragments l = AreOneBelow l.fragments (database_of l.facts) l.rows l.number
