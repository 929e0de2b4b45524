use Rattle.std.proofs.Common.{sym, ◌∙◌, refl}
use Rattle.std.proofs.lemmas.Bool.{false≢true}
use Rattle.esto_term.specs.declared.term.Term.TheVariants.{Plain}
use Rattle.esto_docmodel.proofs.LayoutLemmas.{told_as, value_mention, group_mention, mention_at, one_more, one_found}
use Rattle.esto_docmodel.proofs.layout.+mention.Goals as goal

pub is_mentioned-entries-preserved : goal.is_mentioned-entries-preserved
is_mentioned-entries-preserved t c =
    one_more (mention_at (Plain c.args.variable) c.args.entries.now c.entries.entry-index _ c.entries-test.true c.entry-item.is)
    (λ is. false≢true (sym c.if-is_mentioned_in.false ∙ c.is_mentioned_in.ensures.1 is)) c.entries.invariant

pub is_mentioned-returns-then-is_mentioned_in : goal.is_mentioned-returns-then-is_mentioned_in
is_mentioned-returns-then-is_mentioned_in t c = (
  λ e. one_found (mention_at (Plain c.args.variable) c.args.entries.now c.entries.entry-index _ c.entries-test.true c.entry-item.is)
      (c.is_mentioned_in.ensures.0 c.if-is_mentioned_in.true) c.entries.invariant,
  λ h. refl,
)

pub is_mentioned_in-returns-in-Value : goal.is_mentioned_in-returns-in-Value
is_mentioned_in-returns-in-Value t c = told_as c.is_variable.ensures
    (value_mention (Plain c.args.variable) c.args.entry.now c.in-Value.field-0 c.in-Value.term c.in-Value.is)

pub is_mentioned_in-returns-in-Group : goal.is_mentioned_in-returns-in-Group
is_mentioned_in-returns-in-Group t c = told_as (rw c.items.ensures at c.is_mentioned.ensures)
    (group_mention (Plain c.args.variable) c.args.entry.now c.in-Group.field-0 c.in-Group.inner c.in-Group.is)
