use Rattle.std.proofs.Common.{sym, ◌∙◌}
use Rattle.std.proofs.lemmas.Bool.{false≢true}
use Rattle.std.proofs.lemmas.Result.{IfOk-weaker}
use Rattle.esto_rows.proofs.SameLemmas.{is_not, not_same, same_told}
use Rattle.esto_rows.proofs.same.are_one_by.Goals as goal

pub returns-then-not-branch : goal.returns-then-not-branch
returns-then-not-branch c = is_not (not_same c.args.one.now.rows c.args.other.now.rows
    (λ back. false≢true (sym c.if-not-branch.true ∙ c.in_ok-mark_each.ensures.part.1 back)))

pub returns : goal.returns
returns c = IfOk-weaker c.are_marked.result _ _
    (λ back told. same_told c.args.one.now.rows c.args.other.now.rows back (c.in_ok-mark_each.ensures.part.0 c.if-not-branch.false)
    (told c.args.other.now.rows (c.in_ok-mark_each.ensures.marked c.if-not-branch.false)))
    c.are_marked.ensures
