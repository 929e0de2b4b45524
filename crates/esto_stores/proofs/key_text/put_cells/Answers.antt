use Rattle.std.proofs.Common.{◌∙◌, ◌∷◌, ◌++◌, List, ℕ, [], ap}
use Rattle.std.proofs.lemmas.Str.{is_utf8-from_IsUtf8}
use Rattle.std.proofs.lemmas.List.{get_or_read}
use Rattle.esto_stores.specs.Keys.{tab}
use Rattle.esto_stores.proofs.KeyTextLemmas.{joined_start, joined_goes, joined_end}
use Rattle.esto_stores.proofs.key_text.put_cells.Goals as goal

pub cells-init : goal.cells-init
cells-init c =
    joined_start _ _ _ _ (c.in_ok-append.ensures.ok ∙ ap (λ (t : List ℕ). c.args.text.now ++ t) c.bytes.ensures.value)
    (rw c.bytes.ensures.value at (is_utf8-from_IsUtf8 _ c.bytes.ensures.utf8))

pub cells-preserved : goal.cells-preserved
cells-preserved c =
    let cell = get_or_read c.args.others.now c.cells.cell-index c.cell-item.result c.cells-test.true c.cell-item.is [] in
    joined_goes _ _ c.args.others.now c.cells.cell-index _ _ c.cell-item.result c.cells.invariant c.cells-test.true cell
    (rw c.bytes-in-cells.ensures.value at (is_utf8-from_IsUtf8 _ c.bytes-in-cells.ensures.utf8))
    (c.in_ok-put_next.ensures ∙ ap (λ (t : List ℕ). c.cells.text ++ tab ∷ t) c.bytes-in-cells.ensures.value)

pub returns-clause-line : goal.returns-clause-line
returns-clause-line c = (joined_end _ _ _ _ _ c.cells.invariant c.cells-test.false).0
