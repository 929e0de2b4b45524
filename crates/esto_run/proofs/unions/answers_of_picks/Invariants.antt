use Rattle.std.proofs.Common.{map, take}
use Rattle.esto_run.specs.Picks.{candidate_of}
use Rattle.esto_run.proofs.UnionLemmas.{AreAnswersSoFar}
use Rattle.esto_run.proofs.unions.answers_of_picks.Given as goal

abbrev pub invariant-picks : goal.invariant-picks
invariant-picks l = AreAnswersSoFar l.initial.codes l.codes l.stored l.arity l.rows (map candidate_of (take l.pick-index l.picks))
