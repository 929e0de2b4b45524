use Rattle.esto_catalog.proofs.OneLemmas.{have_one_catalogue, have_no_error, have_one_error}
use Rattle.esto_catalog.proofs.walk.catalogues_are_determined.Goals as goal

pub returns-clause-catalogue : goal.returns-clause-catalogue
returns-clause-catalogue c =
    let r = c.readings_are_determined.ensures in
    let l = c.layout_readings_are_determined.ensures in
    let n = c.views_name_their_columns.ensures in
    let k = c.constraint_readings_are_determined.ensures in
    let g = c.judgements_are_exact.ensures in
    have_one_catalogue r.reading r.apart r.fault n l.reading l.apart l.fault k.reading k.apart k.fault g.ranks g.cycles

pub returns-clause-apart : goal.returns-clause-apart
returns-clause-apart c =
    let r = c.readings_are_determined.ensures in
    let l = c.layout_readings_are_determined.ensures in
    let n = c.views_name_their_columns.ensures in
    let k = c.constraint_readings_are_determined.ensures in
    let g = c.judgements_are_exact.ensures in
    have_no_error r.reading r.apart r.fault n l.reading l.apart l.fault k.reading k.apart k.fault g.ranks g.cycles

pub returns-clause-error : goal.returns-clause-error
returns-clause-error c =
    let r = c.readings_are_determined.ensures in
    let l = c.layout_readings_are_determined.ensures in
    let n = c.views_name_their_columns.ensures in
    let k = c.constraint_readings_are_determined.ensures in
    let g = c.judgements_are_exact.ensures in
    have_one_error r.reading r.apart r.fault n l.reading l.apart l.fault k.reading k.apart k.fault g.ranks g.cycles
