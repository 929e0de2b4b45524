use Rattle.std.proofs.Common.{Err}
use Rattle.esto_data.proofs.StepLemmas.{file_filled, file_given, fill_stops}
use Rattle.esto_data.proofs.filling.text_of.Goals as goal

pub returns-in-Ok : goal.returns-in-Ok
returns-in-Ok c loaded stands = λ stored at.
    file_filled c.args.catalogue.now c.args.number stored at loaded.facts c.in-Ok.text (c.in-Ok.ensures.text loaded stands)
    (c.in-Ok.ensures.opened loaded stands)

pub returns : goal.returns
returns c loaded stands = λ stored at.
    fill_stops stored loaded.facts c.in-Err.error c.fill_status.result
    (file_given c.args.catalogue.now c.args.number stored at loaded.facts (Err c.in-Err.error) (c.in-Err.ensures.text loaded stands)) c.fill_status.ensures
