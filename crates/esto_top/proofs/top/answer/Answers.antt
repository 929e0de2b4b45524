use Rattle.esto_top.proofs.AskedLemmas.{usage_asks}
use Rattle.esto_top.proofs.Mediation.{usage}
use Rattle.esto_top.proofs.top.answer.Goals as goal

pub returns-in-None-clause-answer : goal.returns-in-None-clause-answer
returns-in-None-clause-answer g c = usage _ _ _ c.in-None.ensures.command

pub returns-in-None-clause-asked : goal.returns-in-None-clause-asked
returns-in-None-clause-asked g c = usage_asks _ _ _ c.in-None.ensures.command

pub returns-in-Some-clause-answer : goal.returns-in-Some-clause-answer
returns-in-Some-clause-answer g c = rw c.in-Some.ensures.command c.obey.ensures.answer

pub returns-in-Some-clause-asked : goal.returns-in-Some-clause-asked
returns-in-Some-clause-asked g c = rw c.in-Some.ensures.command c.obey.ensures.asked

pub returns-in-None-clause-filled : goal.returns-in-None-clause-filled
returns-in-None-clause-filled g c = rw c.in-None.ensures.command tt

pub returns-in-Some-clause-filled : goal.returns-in-Some-clause-filled
returns-in-Some-clause-filled g c = rw c.in-Some.ensures.command c.obey.ensures.filled
