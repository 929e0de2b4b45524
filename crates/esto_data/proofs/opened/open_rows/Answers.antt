use Rattle.std.proofs.Common.{arith}
use Rattle.esto_run.specs.Fragments.{IsStoredAt, Stored}
use Rattle.esto_data.proofs.RowLemmas.{rows_by, rows_exit}
use Rattle.esto_data.proofs.opened.open_rows.Goals as goal

pub item-store-requires : goal.item-store-requires
item-store-requires g c = omega (arith, c.requires.number, (c.catalogues_are_sound.ensures c.args.catalogue.now).stored)

pub returns-in_err-bytes-clause-answer : goal.returns-in_err-bytes-clause-answer
returns-in_err-bytes-clause-answer g c =
    let stored : Stored = record { definition = c.item-fragment.result.now; store = c.item-store.result.now } in
    let at : IsStoredAt c.args.catalogue.now c.args.number stored = record { definition = c.item-fragment.ensures; store = c.item-store.ensures } in
    rows_exit (g.S.Shelf.files c.args.shelf.now) c.args.catalogue.now c.args.number stored at _ _ _ _ _ c.from_residual.result c.from_residual.ensures.1
    c.in_err-bytes.ensures.answer c.in_err-bytes.ensures.asked

pub code_content-requires-clause-shape : goal.code_content-requires-clause-shape
code_content-requires-clause-shape g c =
    (c.catalogues_are_sound.ensures c.args.catalogue.now).shapes c.args.number c.item-store.result.now c.item-fragment.result.now c.item-store.ensures
    c.item-fragment.ensures

pub returns-clause-answer : goal.returns-clause-answer
returns-clause-answer g c =
    let stored : Stored = record { definition = c.item-fragment.result.now; store = c.item-store.result.now } in
    let at : IsStoredAt c.args.catalogue.now c.args.number stored = record { definition = c.item-fragment.ensures; store = c.item-store.ensures } in
    rows_by (g.S.Shelf.files c.args.shelf.now) c.args.catalogue.now c.args.number stored at c.in_ok-bytes.bytes c.in_ok-bytes.ensures.answer _ _
    c.in_ok-bytes.ensures.asked _ _ _ _ _ c.code_content.result c.code_content.ensures.answer c.code_content.ensures.rows
