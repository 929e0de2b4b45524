use Rattle.esto_top.proofs.CallLemmas.{is_mediation}
use Rattle.esto_top.proofs.top.mediate.Goals as goal

pub returns-clause-mediation : goal.returns-clause-mediation
returns-clause-mediation g c =
    is_mediation c.outcomes_hold.ensures _ _ c.answer-answer.ensures.answer c.answer-answer.ensures.asked c.answer-answer.ensures.filled
    c.finish.ensures.put
