use Rattle.std.proofs.Common.{sym, ◌∙◌}
use Rattle.std.proofs.lemmas.Bool.{false≢true}
use Rattle.esto_known.proofs.TouchLemmas.{touch_linked, touch_nowhere}
use Rattle.esto_known.proofs.touching.touch.Goals as goal

pub returns-clause-covers : goal.returns-clause-covers
returns-clause-covers c =
    touch_linked c.args.groups.now c.args.sets.now.sets c.in_ok-sets.field-0.sets c.args.term.now c.args.other.now
    (λ is. false≢true (sym c.if-equal.false ∙ c.equal.ensures.1 is)) c.in_ok-sets.ensures.covers

pub returns-then-is_empty-clause-covers : goal.returns-then-is_empty-clause-covers
returns-then-is_empty-clause-covers c =
    touch_nowhere c.args.groups.now c.args.sets.now.sets c.args.term.now c.args.other.now (c.is_empty.ensures.0 c.if-is_empty.true)
