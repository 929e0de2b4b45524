use Rattle.std.proofs.Common.{ap, sym, ◌∙◌}
use Rattle.std.proofs.lemmas.Option.{same_Some, slice_get_within}
use Rattle.esto_mapping.specs.declared.dataset.Dataset.{Dataset}
use Rattle.esto_course.proofs.Steps.{at_exit}
use Rattle.esto_status.proofs.AskedSteps.{handed_asks}
use Rattle.esto_data.specs.Datasets.{IsSourceAt, Source}
use Rattle.esto_data.proofs.DatasetLemmas.{source_opened, source_opened_asks, source_unfetched, source_unfetched_asks, source_unread, source_unread_asks}
use Rattle.esto_data.proofs.datasets.load_next.Goals as goal

pub unreachable-requires : goal.unreachable-requires
unreachable-requires g c =
    let source = c.requires.source in
    c.in_default.not-Some source.0.file
    (ap (λ (it : Dataset). it.file) (same_Some c.item.result.now source.0.dataset (sym c.item.ensures ∙ source.1.there)) ∙ source.1.file_is)

pub returns-in_err-bytes-clause-answer : goal.returns-in_err-bytes-clause-answer
returns-in_err-bytes-clause-answer g c =
    let source : Source = record { dataset = c.item.result.now; file = c.in-Some.file } in
    let at : IsSourceAt c.args.catalogue.now.datasets c.args.number source = record { there = c.item.ensures; file_is = c.in-Some.is } in
    at_exit _ _ c.from_residual.result c.from_residual.ensures.1
    (source_unfetched (g.S.Shelf.files c.args.shelf.now) c.args.catalogue.now.datasets c.args.number source at c.in_err-bytes.ensures.answer)

pub returns-in_err-bytes-clause-asked : goal.returns-in_err-bytes-clause-asked
returns-in_err-bytes-clause-asked g c =
    let source : Source = record { dataset = c.item.result.now; file = c.in-Some.file } in
    let at : IsSourceAt c.args.catalogue.now.datasets c.args.number source = record { there = c.item.ensures; file_is = c.in-Some.is } in
    handed_asks _ _ c.from_residual.result c.from_residual.ensures.1
    (source_unfetched_asks (g.S.Shelf.files c.args.shelf.now) c.args.catalogue.now.datasets c.args.number source at c.in_err-bytes.ensures.asked)

pub load_content-requires-clause-number : goal.load_content-requires-clause-number
load_content-requires-clause-number g c = slice_get_within c.args.catalogue.now.datasets c.args.number c.item.result.now c.item.ensures

pub returns-in_err-load_content-clause-answer : goal.returns-in_err-load_content-clause-answer
returns-in_err-load_content-clause-answer g c =
    let source : Source = record { dataset = c.item.result.now; file = c.in-Some.file } in
    let at : IsSourceAt c.args.catalogue.now.datasets c.args.number source = record { there = c.item.ensures; file_is = c.in-Some.is } in
    at_exit _ _ c.from_residual-in_err-load_content.result c.from_residual-in_err-load_content.ensures.1
    (source_unread (g.S.Shelf.files c.args.shelf.now) c.args.catalogue.now.datasets c.args.number source at c.in_ok-bytes.bytes c.in_ok-bytes.ensures.answer
    (c.in_err-load_content.ensures.answer c.item.result.now c.item.ensures))

pub returns-in_err-load_content-clause-asked : goal.returns-in_err-load_content-clause-asked
returns-in_err-load_content-clause-asked g c =
    let source : Source = record { dataset = c.item.result.now; file = c.in-Some.file } in
    let at : IsSourceAt c.args.catalogue.now.datasets c.args.number source = record { there = c.item.ensures; file_is = c.in-Some.is } in
    handed_asks _ _ c.from_residual-in_err-load_content.result c.from_residual-in_err-load_content.ensures.1
    (source_unread_asks (g.S.Shelf.files c.args.shelf.now) c.args.catalogue.now.datasets c.args.number source at c.in_ok-bytes.bytes c.in_ok-bytes.ensures.asked
    (c.in_err-load_content.ensures.answer c.item.result.now c.item.ensures))

pub returns-clause-answer : goal.returns-clause-answer
returns-clause-answer g c =
    let source : Source = record { dataset = c.item.result.now; file = c.in-Some.file } in
    let at : IsSourceAt c.args.catalogue.now.datasets c.args.number source = record { there = c.item.ensures; file_is = c.in-Some.is } in
    source_opened (g.S.Shelf.files c.args.shelf.now) c.args.catalogue.now.datasets c.args.number source at c.in_ok-bytes.bytes c.in_ok-bytes.ensures.answer
    (c.in_ok-load_content.ensures.answer c.item.result.now c.item.ensures)

pub returns-clause-asked : goal.returns-clause-asked
returns-clause-asked g c =
    let source : Source = record { dataset = c.item.result.now; file = c.in-Some.file } in
    let at : IsSourceAt c.args.catalogue.now.datasets c.args.number source = record { there = c.item.ensures; file_is = c.in-Some.is } in
    source_opened_asks (g.S.Shelf.files c.args.shelf.now) c.args.catalogue.now.datasets c.args.number source at c.in_ok-bytes.bytes c.in_ok-bytes.ensures.asked
    (c.in_ok-load_content.ensures.answer c.item.result.now c.item.ensures)
