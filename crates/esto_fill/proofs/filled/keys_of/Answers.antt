use Rattle.std.proofs.Common.{◌≡◌, ◌<◌, ℕ, None, refl, sym, subst, ◌∙◌}
use Rattle.esto_stores.specs.KeyText.{row_fault}
use Rattle.esto_stores.specs.Rows.{Row}
use Rattle.esto_term.proofs.ListLemmas.{holds_more}
use Rattle.esto_fill.proofs.FilledLemmas.{all_fit, keys_say, unfit_first}
use Rattle.esto_fill.proofs.filled.keys_of.Goals as goal

pub returns-in-Some-clause-text : goal.returns-in-Some-clause-text
returns-in-Some-clause-text c = (
  refl,
  unfit_first c.args.rows.now c.items-row-items.result.now c.items-row-items.ensures c.rows.row-index c.row-item.result c.rows-test.true c.row-item.is
      c.rows.invariant c.in-Some.column (sym c.key_row_fault.ensures ∙ c.in-Some.is) c.item.result.now c.in_ok-cell.cell c.item.ensures
      c.in_ok-cell.ensures,
)

pub rows-preserved : goal.rows-preserved
rows-preserved c =
    holds_more (λ _ (it : Row). row_fault it ≡ None) c.items-row-items.result.now c.rows.row-index c.row-item.result c.rows-test.true c.row-item.is
    c.rows.invariant (sym c.key_row_fault.ensures ∙ c.in_default.is)

pub write_keys-requires-clause-plain : goal.write_keys-requires-clause-plain
write_keys-requires-clause-plain c =
    all_fit c.args.rows.now c.items-row-items.result.now c.items-row-items.ensures c.rows.row-index c.rows-test.false c.rows.invariant

pub write_keys-requires-clause-some : goal.write_keys-requires-clause-some
write_keys-requires-clause-some c = λ k d below. subst (λ (n : ℕ). 0 < n) (sym (c.requires.wide k d below)) c.requires.some

pub returns-clause-text : goal.returns-clause-text
returns-clause-text c = (
  all_fit c.args.rows.now c.items-row-items.result.now c.items-row-items.ensures c.rows.row-index c.rows-test.false c.rows.invariant,
  c.in_ok-text.ensures.text,
)

pub returns-clause-opened : goal.returns-clause-opened
returns-clause-opened c =
    keys_say c.args.columns c.args.rows.now c.in_ok-text.text c.in_ok-text.ensures.rows (c.in_ok-text.ensures.fault c.args.columns c.requires.wide)
