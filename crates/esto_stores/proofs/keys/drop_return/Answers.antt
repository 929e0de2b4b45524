use Rattle.std.proofs.Common.{◌∙◌, sym, ap}
use Rattle.esto_stores.specs.Keys.{without_return}
use Rattle.esto_stores.proofs.KeyLemmas.{no_return, return_last, other_last}
use Rattle.esto_stores.proofs.keys.drop_return.Goals as goal

pub returns-then-last-eq13 : goal.returns-then-last-eq13
returns-then-last-eq13 c =
    let parts = c.in-Some.ensures.cases.0 in
    sym (ap without_return parts ∙ return_last _ _ c.if-last-eq13.true)

pub returns-else-last-eq13 : goal.returns-else-last-eq13
returns-else-last-eq13 c =
    let parts = c.in-Some.ensures.cases.0 in
    parts ∙ sym (other_last _ _ c.if-last-eq13.false) ∙ sym (ap without_return parts)

pub returns-in_default : goal.returns-in_default
returns-in_default c = no_return _ c.in_default.ensures.cases
