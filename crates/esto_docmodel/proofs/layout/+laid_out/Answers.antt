use Rattle.std.proofs.Common.{sym, ◌∙◌}
use Rattle.std.proofs.lemmas.Bool.{false≢true}
use Rattle.esto_docmodel.proofs.LayoutLemmas.{same_parts, first_fails, first_goes, value_parts, group_parts, laid_at, each_goes, each_fails}
use Rattle.esto_docmodel.proofs.layout.+laid_out.Goals as goal

pub are_laid_out-entries-preserved : goal.are_laid_out-entries-preserved
are_laid_out-entries-preserved t c =
    each_goes (laid_at c.args.columns c.args.steps c.args.entries.now c.entries.entry-index _ c.entries-test.true c.entry-item.is)
    (c.is_laid_out.ensures.0 c.if-not-is_laid_out.false) c.entries.invariant

pub are_laid_out-returns-then-not-is_laid_out : goal.are_laid_out-returns-then-not-is_laid_out
are_laid_out-returns-then-not-is_laid_out t c = (
  λ e. absurd (false≢true e),
  λ h. absurd (each_fails
      (laid_at c.args.columns c.args.steps c.args.entries.now c.entries.entry-index _ c.entries-test.true c.entry-item.is)
      (λ is. false≢true (sym c.if-not-is_laid_out.true ∙ c.is_laid_out.ensures.1 is)) c.entries.invariant h),
)

pub is_laid_out-returns-then-is_plain : goal.is_laid_out-returns-then-is_plain
is_laid_out-returns-then-is_plain t c =
    first_goes (value_parts c.args.columns c.args.steps c.args.entry.now c.in-Value.path c.in-Value.term c.in-Value.is) _ _
    (rw c.items.ensures at c.is_plain.ensures) c.if-is_plain.true c.is_column.ensures

pub is_laid_out-returns-else-is_plain : goal.is_laid_out-returns-else-is_plain
is_laid_out-returns-else-is_plain t c =
    first_fails (value_parts c.args.columns c.args.steps c.args.entry.now c.in-Value.path c.in-Value.term c.in-Value.is) _
    (rw c.items.ensures at c.is_plain.ensures) c.if-is_plain.false

pub is_laid_out-returns-else-is_plain-2 : goal.is_laid_out-returns-else-is_plain-2
is_laid_out-returns-else-is_plain-2 t c =
    first_fails (group_parts c.args.columns c.args.steps c.args.entry.now c.in-Group.path c.in-Group.inner c.in-Group.is) _
    (rw c.items-in-Group.ensures at c.is_plain-in-Group.ensures) c.if-is_plain-2.false

pub is_laid_out-returns-then-fit_together : goal.is_laid_out-returns-then-fit_together
is_laid_out-returns-then-fit_together t c =
    first_goes (group_parts c.args.columns c.args.steps c.args.entry.now c.in-Group.path c.in-Group.inner c.in-Group.is) _ _
    (rw c.items-in-Group.ensures at c.is_plain-in-Group.ensures) c.if-is_plain-2.true
    (first_goes (same_parts _ _) _ _ (rw c.items-then-is_plain-2.ensures at c.fit_together.ensures) c.if-fit_together.true
    (rw (c.items-then-fit_together.ensures, c.len.ensures) at c.are_laid_out.ensures))

pub is_laid_out-returns-else-fit_together : goal.is_laid_out-returns-else-fit_together
is_laid_out-returns-else-fit_together t c =
    first_goes (group_parts c.args.columns c.args.steps c.args.entry.now c.in-Group.path c.in-Group.inner c.in-Group.is) _ _
    (rw c.items-in-Group.ensures at c.is_plain-in-Group.ensures) c.if-is_plain-2.true
    (first_fails (same_parts _ _) _ (rw c.items-then-is_plain-2.ensures at c.fit_together.ensures) c.if-fit_together.false)
