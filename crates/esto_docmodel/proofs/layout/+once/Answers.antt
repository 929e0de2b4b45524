use Rattle.std.proofs.Common.{◌+◌, sym, ◌∙◌}
use Rattle.std.proofs.lemmas.List.{take_rest}
use Rattle.std.proofs.lemmas.Bool.{false≢true}
use Rattle.esto_term.specs.declared.term.Term.TheVariants.{Plain}
use Rattle.esto_docmodel.proofs.LayoutLemmas.{first_fails, first_goes, not_told, once_found_at, told_as, value_once, group_once, once_passed_at}
use Rattle.esto_docmodel.proofs.layout.+once.Goals as goal

pub stands_once-entries-preserved : goal.stands_once-entries-preserved
stands_once-entries-preserved t c =
    once_passed_at (Plain c.args.variable) c.args.entries.now c.entries.place _ c.entries-test.true c.index-entries-place.is
    (λ is. false≢true (sym c.if-is_mentioned_in.false ∙ c.is_mentioned_in.ensures.1 is)) c.entries.invariant

pub stands_once-returns-then-stands_once_in : goal.stands_once-returns-then-stands_once_in
stands_once-returns-then-stands_once_in t c =
    first_goes (once_found_at (Plain c.args.variable) c.args.entries.now c.entries.place _ c.entries-test.true c.index-entries-place.is
    (c.is_mentioned_in.ensures.0 c.if-is_mentioned_in.true) c.entries.invariant) _ _ c.stands_once_in.ensures c.if-stands_once_in.true
    (not_told c.is_mentioned.result (rw (take_rest c.args.entries.now (c.entries.place + 1)) at c.is_mentioned.ensures))

pub stands_once-returns-else-stands_once_in : goal.stands_once-returns-else-stands_once_in
stands_once-returns-else-stands_once_in t c =
    first_fails (once_found_at (Plain c.args.variable) c.args.entries.now c.entries.place _ c.entries-test.true c.index-entries-place.is
    (c.is_mentioned_in.ensures.0 c.if-is_mentioned_in.true) c.entries.invariant) _ c.stands_once_in.ensures c.if-stands_once_in.false

pub stands_once_in-returns-in-Value : goal.stands_once_in-returns-in-Value
stands_once_in-returns-in-Value t c = told_as c.is_variable.ensures
    (value_once (Plain c.args.variable) c.args.entry.now c.in-Value.field-0 c.in-Value.term c.in-Value.is)

pub stands_once_in-returns-in-Group : goal.stands_once_in-returns-in-Group
stands_once_in-returns-in-Group t c = told_as (rw c.items.ensures at c.stands_once.ensures)
    (group_once (Plain c.args.variable) c.args.entry.now c.in-Group.field-0 c.in-Group.inner c.in-Group.is)
