use Rattle.std.proofs.Common.{[], ◌<◌, ℕ}
use Rattle.esto_condchase.specs.Ways.{IsPassedAt, meets}
use Rattle.esto_condchase.proofs.passing.is_linked_anew.Given as goal

-- no term so far may be so
abbrev pub invariant-row : goal.invariant-row
invariant-row l = (its : ℕ) → its < l.at → IsPassedAt l.step.known.now (meets l.step.from.now l.step.terms.now l.step.to.now l.step.owns.now) l.step.terms.now
    l.step.owns.now l.floor [] (λ _. ⊥) its
