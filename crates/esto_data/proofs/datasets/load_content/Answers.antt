use Rattle.std.proofs.Common.{Err, Ok, ◌∙◌}
use Rattle.esto_data.proofs.DatasetLemmas.{data_goes, data_stops, fault_found, found_at, own_name}
use Rattle.esto_data.proofs.datasets.load_content.Goals as goal

pub returns-in-Ok-clause-answer : goal.returns-in-Ok-clause-answer
returns-in-Ok-clause-answer c = λ dataset at.
    data_goes dataset c.args.bytes.now
    (found_at c.args.catalogue.now.datasets c.args.number c.args.bytes.now dataset at (Unit {0}) (Ok tt) c.in-Ok.ensures.fault)

pub returns-in_ok-name-in-Err-Fault-clause-answer : goal.returns-in_ok-name-in-Err-Fault-clause-answer
returns-in_ok-name-in-Err-Fault-clause-answer c = λ dataset at.
    data_stops dataset c.args.bytes.now c.in_ok-name-in-Err-Fault.name c.in-Err-Fault.fault
    (fault_found (Unit {0}) dataset c.args.bytes.now c.in-Err-Fault.field-0 c.in-Err-Fault.fault c.in-Err-Fault.field-0-is
    (found_at c.args.catalogue.now.datasets c.args.number c.args.bytes.now dataset at (Unit {0}) (Err c.in-Err-Fault.field-0) c.in-Err-Fault.ensures.fault))
    (c.in_ok-name-in-Err-Fault.ensures ∙ own_name c.args.catalogue.now.datasets c.args.number dataset c.item.result.now at c.item.ensures)
