use Rattle.std.proofs.Common.{take, Contains}
use Rattle.esto_term.specs.declared.term.Term.{Term}
use Rattle.esto_known.specs.Told.{TellsOne}
use Rattle.esto_known.proofs.kept.telling_places.Given as goal

-- the places tell what the terms so far meet
abbrev pub invariant-terms : goal.invariant-terms
invariant-terms l = (term : Term) → Contains (take l.term-index l.terms) term → TellsOne l.from l.places term
