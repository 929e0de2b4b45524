use Rattle.std.proofs.Common.{sym, ◌∙◌, arith}
use Rattle.std.proofs.lemmas.Bool.{false≢true}
use Rattle.std.proofs.lemmas.List.{length-map}
use Rattle.esto_views.specs.Fragments.{patterns_of}
use Rattle.esto_views.specs.Plans.{fact_of}
use Rattle.esto_term.proofs.SetLemmas.{Has-within}
use Rattle.esto_access.proofs.AtomLemmas.{follows}
use Rattle.esto_access.proofs.atoms.can_follow.Goals.{then-number-len-via-then-number-len, then-number-len-via-else-number-len+then-number-count}
use Rattle.esto_access.proofs.atoms.can_follow.Goals.{then-number-len-via-else-number-len+else-number-count+then-not-has}
use Rattle.esto_access.proofs.atoms.can_follow.Goals as goal

pub returns : goal.returns
returns c =
    follows c.args.plan.now.atoms c.args.number c.item.result.now c.item.ensures (patterns_of c.args.fragments.now) c.args.set.now c.args.earlier.now
    c.is_accessible.result
    (c.has.ensures.0 c.if-not-has.false) (λ named. false≢true (sym c.if-is_named.false ∙ c.is_named.ensures.1 named)) c.is_accessible.ensures

pub returns-then-number-len : goal.returns-then-number-len
returns-then-number-len c = (
  λ e. absurd (false≢true e),
  λ can. elim c.then-number-len.branch [
    | then-number-len-via-then-number-len w ↦
        let same = length-map c.args.plan.now.atoms fact_of in absurd (omega (arith, same, can.there, w.if-number-len.true, c.len.ensures))
    | then-number-len-via-else-number-len+then-number-count w ↦
        let below = Has-within c.args.set.now c.args.number can.chosen in absurd (omega (arith, below, w.if-number-count.true, w.count.ensures))
    | then-number-len-via-else-number-len+else-number-count+then-not-has w ↦
        absurd (false≢true (sym w.if-not-has.true ∙ w.has.ensures.1 can.chosen))
  ],
)

pub returns-then-is_named : goal.returns-then-is_named
returns-then-is_named c = (λ e. absurd (false≢true e), λ can. absurd (can.absent (c.is_named.ensures.0 c.if-is_named.true)))
