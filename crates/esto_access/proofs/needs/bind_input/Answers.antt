use Rattle.std.proofs.Common.{sym, ◌∙◌}
use Rattle.std.proofs.lemmas.Bool.{false≢true}
use Rattle.esto_access.proofs.needs.bind_input.Goals as goal

pub returns-then-not-is_input-clause-covers : goal.returns-then-not-is_input-clause-covers
returns-then-not-is_input-clause-covers c = λ set.
    (λ covered. (covered, λ input. absurd (false≢true (sym c.if-not-is_input.true ∙ c.is_input.ensures.1 input))), λ both. both.0)

pub returns-clause-covers : goal.returns-clause-covers
returns-clause-covers c = λ set. (
  λ h. let both = (c.in_ok-found.ensures.covers set).0 h in (both.0, λ _. (c.in_ok-bound.ensures.covers set).0 both.1),
  λ (has, needs). (c.in_ok-found.ensures.covers set).1 (has, (c.in_ok-bound.ensures.covers set).1 (needs (c.is_input.ensures.0 c.if-not-is_input.false))),
)
