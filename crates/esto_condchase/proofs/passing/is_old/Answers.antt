use Rattle.std.proofs.lemmas.Bool.{false≢true}
use Rattle.esto_condchase.proofs.passing.is_old.Goals as goal

pub returns-then-is_stuck : goal.returns-then-is_stuck
returns-then-is_stuck c old set passes = absurd (c.is_stuck.ensures c.if-is_stuck.true set passes)

pub returns-then-floor-eq0 : goal.returns-then-floor-eq0
returns-then-floor-eq0 c old = absurd (false≢true old)
