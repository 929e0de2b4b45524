use Rattle.std.proofs.Common.{arith}
use Rattle.esto_run.specs.Opened.{rows_held}
use Rattle.esto_run.proofs.FragmentLemmas.{next_exit, opens_next_by, stored_at}
use Rattle.esto_run.proofs.fragments.open_next.Goals as goal

pub item-store-requires : goal.item-store-requires
item-store-requires g c = omega (arith, c.requires.there, (c.catalogues_are_sound.ensures c.args.catalogue.now).stored)

pub returns-in_err-bytes-clause-answer : goal.returns-in_err-bytes-clause-answer
returns-in_err-bytes-clause-answer g c =
    let stored = stored_at c.args.catalogue.now c.args.number c.item-store.result.now c.requires.there c.item-store.ensures in
    next_exit (g.S.Shelf.files c.args.shelf.now) c.args.catalogue.now c.args.number _ stored.1 _ _ _ c.from_residual.result c.from_residual.ensures.1
    c.in_err-bytes.ensures.answer c.in_err-bytes.ensures.asked

pub returns-clause-answer : goal.returns-clause-answer
returns-clause-answer g c =
    let stored = stored_at c.args.catalogue.now c.args.number c.item-store.result.now c.requires.there c.item-store.ensures in
    opens_next_by (g.S.Shelf.files c.args.shelf.now) c.args.catalogue.now c.args.number _ stored.1 c.in_ok-bytes.bytes c.in_ok-bytes.ensures.answer _ _
    c.in_ok-bytes.ensures.asked
    (rows_held c.args.opened.now) (rows_held c.read_content.new.opened) _ c.read_content.result (c.read_content.ensures.answer _ stored.1)
