use Rattle.std.proofs.lemmas.Result.{IfOk-weaker}
use Rattle.esto_semantics.specs.Facts.{terms_of}
use Rattle.esto_coded.proofs.WholeLemmas.{head_interned}
use Rattle.esto_coded.proofs.answers.answers_over.Goals as goal

pub returns-clause-constants : goal.returns-clause-constants
returns-clause-constants c = IfOk-weaker c.answers_by.result _ _
    (λ it _ text inside. head_interned c.steps_of.new.codes (terms_of c.args.body.now) c.args.head.now c.in_ok-steps.steps.head
    (c.in_ok-steps.ensures.steps).head text inside)
    c.answers_by.ensures.arity
