use Rattle.std.proofs.Common.{ap}
use Rattle.esto_status.specs.Fetch.{fetches}
use Rattle.esto_status.specs.Fetch.FetchStops.{fails, is_longer}
use Rattle.esto_course.specs.Course.Stops.{refused}
use Rattle.esto_status.specs.declared.status.Status.TheVariants.{ReadFault, TooLong}
use Rattle.esto_status.proofs.AskedSteps.{fetch_goes, fetch_refuses, fetch_wanting, fetch_wants, handed_asks, told_failed, told_file, told_longer, told_wanting}
use Rattle.esto_status.proofs.fetching.fetch.Goals as goal

pub returns-in_ok-bytes-in-Ok-clause-answer : goal.returns-in_ok-bytes-in-Ok-clause-answer
unfolding fetches
returns-in_ok-bytes-in-Ok-clause-answer g c = (c.in-Ok.file, c.in-Ok.ensures.answer.0, c.in-Ok.ensures.answer.1, c.in_ok-bytes-in-Ok.ensures)

pub returns-in_ok-copy-in-Err-Failed-clause-answer : goal.returns-in_ok-copy-in-Err-Failed-clause-answer
unfolding fetches
returns-in_ok-copy-in-Err-Failed-clause-answer g c =
    let h = rw c.in-Err-Failed.field-0-is at c.in-Err-Failed.ensures.answer in
    refused (record { cause = h }) (fails (ap ReadFault c.in_ok-copy-in-Err-Failed.ensures))

pub returns-in_ok-copy-in-Err-TooLong-clause-answer : goal.returns-in_ok-copy-in-Err-TooLong-clause-answer
unfolding fetches
returns-in_ok-copy-in-Err-TooLong-clause-answer g c =
    let h = rw c.in-Err-TooLong.field-0-is at c.in-Err-TooLong.ensures.answer in
    refused (record { cause = tt }) (is_longer h.1.0 h.1.1 h.1.2 (ap (λ name. TooLong name c.args.limit) c.in_ok-copy-in-Err-TooLong.ensures))

pub returns-in_ok-bytes-in-Ok-clause-asked : goal.returns-in_ok-bytes-in-Ok-clause-asked
unfolding fetches
returns-in_ok-bytes-in-Ok-clause-asked g c =
    fetch_goes _ _ _ _ _ _ (told_file _ _ _ _ c.in-Ok.ensures.asked)
    (c.in-Ok.file, c.in-Ok.ensures.answer.0, c.in-Ok.ensures.answer.1, c.in_ok-bytes-in-Ok.ensures)

pub returns-in_ok-copy-in-Err-Failed-clause-asked : goal.returns-in_ok-copy-in-Err-Failed-clause-asked
returns-in_ok-copy-in-Err-Failed-clause-asked g c =
    let h = rw c.in-Err-Failed.field-0-is at c.in-Err-Failed.ensures.asked in
    fetch_refuses _ _ _ _ _ _ (told_failed _ _ _ h) (fails (ap ReadFault c.in_ok-copy-in-Err-Failed.ensures))

pub returns-in_ok-copy-in-Err-TooLong-clause-asked : goal.returns-in_ok-copy-in-Err-TooLong-clause-asked
returns-in_ok-copy-in-Err-TooLong-clause-asked g c =
    let h = rw c.in-Err-TooLong.field-0-is at c.in-Err-TooLong.ensures.answer in
    let came = rw c.in-Err-TooLong.field-0-is at c.in-Err-TooLong.ensures.asked in
    fetch_refuses _ _ _ _ _ _ (told_longer _ _ _ _ came)
    (is_longer h.1.0 h.1.1 h.1.2 (ap (λ name. TooLong name c.args.limit) c.in_ok-copy-in-Err-TooLong.ensures))

pub returns-in-Err-OutOfMemory-clause-asked : goal.returns-in-Err-OutOfMemory-clause-asked
returns-in-Err-OutOfMemory-clause-asked g c =
    let h = rw c.in-Err-OutOfMemory.field-0-is at c.in-Err-OutOfMemory.ensures.asked in
    fetch_wanting _ _ _ _ _ (told_wanting _ _ _ h)

pub returns-in_err-bytes-in-Ok-clause-asked : goal.returns-in_err-bytes-in-Ok-clause-asked
returns-in_err-bytes-in-Ok-clause-asked g c =
    handed_asks _ _ _ c.from_residual.ensures.1 (fetch_wants _ _ _ _ _ (told_file _ _ _ _ c.in-Ok.ensures.asked))

pub returns-in_err-copy-in-Err-Failed-clause-asked : goal.returns-in_err-copy-in-Err-Failed-clause-asked
returns-in_err-copy-in-Err-Failed-clause-asked g c =
    let h = rw c.in-Err-Failed.field-0-is at c.in-Err-Failed.ensures.asked in
    handed_asks _ _ _ c.from_residual-in_err-copy-in-Err-Failed.ensures.1 (fetch_wants _ _ _ _ _ (told_failed _ _ _ h))

pub returns-in_err-copy-in-Err-TooLong-clause-asked : goal.returns-in_err-copy-in-Err-TooLong-clause-asked
returns-in_err-copy-in-Err-TooLong-clause-asked g c =
    let h = rw c.in-Err-TooLong.field-0-is at c.in-Err-TooLong.ensures.asked in
    handed_asks _ _ _ c.from_residual-in_err-copy-in-Err-TooLong.ensures.1 (fetch_wants _ _ _ _ _ (told_longer _ _ _ _ h))
