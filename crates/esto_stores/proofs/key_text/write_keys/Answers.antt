use Rattle.std.proofs.Common.{◌≡◌, ◌∙◌, refl, sym, ap, true}
use Rattle.std.specs.List.{list_all}
use Rattle.esto_stores.specs.KeyText.{keys_text}
use Rattle.esto_stores.specs.Rows.{are_texts}
use Rattle.esto_stores.proofs.KeyTextLemmas.{rows_read, keys_no_fault, all_written}
use Rattle.esto_stores.proofs.key_text.write_keys.Goals as goal

pub rows-init : goal.rows-init
rows-init c = (c.new-text.ensures, refl)

pub returns-clause-text : goal.returns-clause-text
returns-clause-text c = (all_written _ _ _ c.rows-test.false c.rows.invariant).0 ∙ ap keys_text c.items-row-items.ensures

pub returns-clause-rows : goal.returns-clause-rows
returns-clause-rows c =
    let w = all_written _ _ _ c.rows-test.false c.rows.invariant in
    rw (w.0, c.items-row-items.ensures) (rows_read c.lines_begin_anew.ensures.first c.args.rows.now c.requires.plain c.requires.some)

pub returns-clause-fault : goal.returns-clause-fault
returns-clause-fault c width sizes =
    let w = all_written _ _ _ c.rows-test.false c.rows.invariant in
    let texts : list_all are_texts c.args.rows.now ≡ true = sym (ap (list_all are_texts) c.items-row-items.ensures) ∙ w.1 in
    rw (w.0, c.items-row-items.ensures) (keys_no_fault c.lines_begin_anew.ensures.first width c.args.rows.now c.requires.plain c.requires.some texts sizes)
