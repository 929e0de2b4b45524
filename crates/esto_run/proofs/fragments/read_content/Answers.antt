use Rattle.std.proofs.Common.{◌∙◌, Err, Ok}
use Rattle.esto_run.proofs.FragmentLemmas.{content_goes, content_stops, fault_given, gives_stored, same_name}
use Rattle.esto_run.proofs.fragments.read_content.Goals as goal

pub returns-in-Ok-clause-answer : goal.returns-in-Ok-clause-answer
returns-in-Ok-clause-answer c = λ stored at.
    let fault = rw c.bytes.ensures at c.in-Ok.ensures.fault in
    let taken = rw c.bytes.ensures at c.in-Ok.ensures.opened in
    (content_goes stored c.args.bytes.now (gives_stored c.args.catalogue.now c.args.number c.args.bytes.now (Ok tt) stored at fault).0, taken)

pub returns-in_ok-name-in-Err-Fault-clause-answer : goal.returns-in_ok-name-in-Err-Fault-clause-answer
returns-in_ok-name-in-Err-Fault-clause-answer c = λ stored at.
    let gives = gives_stored c.args.catalogue.now c.args.number c.bytes.result.now (Err c.in-Err-Fault.field-0) stored at c.in-Err-Fault.ensures.fault in
    content_stops stored c.args.bytes.now c.in_ok-name-in-Err-Fault.name c.in-Err-Fault.fault
    (fault_given stored c.args.bytes.now c.bytes.result.now c.in-Err-Fault.field-0 c.in-Err-Fault.fault c.bytes.ensures c.in-Err-Fault.field-0-is gives)
    (c.in_ok-name-in-Err-Fault.ensures ∙ same_name c.args.catalogue.now c.args.number stored at c.item.result.now c.item.ensures)
