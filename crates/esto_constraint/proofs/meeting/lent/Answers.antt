use Rattle.std.proofs.Common.{[], ◌∷◌}
use Rattle.esto_query.proofs.RowLemmas.{known_at_first}
use Rattle.esto_constraint.proofs.MeetingLemmas.{whole_completes}
use Rattle.esto_constraint.proofs.RuleLemmas.{tuple_sound, equality_sound, denial_sound, with_sides}
use Rattle.esto_constraint.proofs.meeting.lent.Goals as goal

pub returns-in-Tuple-clause-flat : goal.returns-in-Tuple-clause-flat
returns-in-Tuple-clause-flat c =
    let rule = c.in-Tuple.rule in
    rw c.items.ensures (tuple_sound rule.body rule.head rule.names rule.sound).rule.flat_body

pub returns-in-Tuple-clause-aimed : goal.returns-in-Tuple-clause-aimed
returns-in-Tuple-clause-aimed c =
    let rule = c.in-Tuple.rule in
    let kept = (tuple_sound rule.body rule.head rule.names rule.sound).rule in
    (rw c.items.ensures kept.flat_body, rw c.items-in-Tuple.ensures kept.flat_head, rw c.items.ensures (whole_completes rule.body))

pub returns-in-Equal-clause-flat : goal.returns-in-Equal-clause-flat
returns-in-Equal-clause-flat c =
    let rule = c.in-Equal.rule in
    rw c.items-in-Equal.ensures (equality_sound rule.body rule.left rule.right rule.names rule.sound).rule.flat_body

pub returns-in-Equal-clause-aimed : goal.returns-in-Equal-clause-aimed
returns-in-Equal-clause-aimed c =
    let rule = c.in-Equal.rule in
    rw c.items-in-Equal.ensures (known_at_first (record { head = rule.left ∷ rule.right ∷ []; body = rule.body }) _
    (with_sides rule.body rule.left rule.right rule.names (equality_sound rule.body rule.left rule.right rule.names rule.sound)).query)

pub returns-in-Never-clause-flat : goal.returns-in-Never-clause-flat
returns-in-Never-clause-flat c =
    let rule = c.in-Never.rule in
    rw c.items-in-Never.ensures (denial_sound rule.body rule.names rule.sound).rule.flat_body
