use Rattle.std.proofs.Common.{get_or}
use Rattle.std.proofs.lemmas.List.{get_or_default}
use Rattle.esto_views.specs.Printing.{byte_text}
use Rattle.esto_views.proofs.PrintingLemmas.{each_turn, each_end}
use Rattle.esto_views.proofs.printing.put_bytes.Goals as goal

pub bytes-preserved : goal.bytes-preserved
bytes-preserved c =
    let byte = get_or c.args.bytes.now c.bytes.byte-index 0 in
    each_turn (λ _ byte. byte_text byte) c.args.bytes.now c.bytes.byte-index _ c.bytes.text c.bytes.invariant byte c.put_byte.new.text c.bytes-test.true
    (get_or_default c.args.bytes.now c.bytes.byte-index 0 byte c.bytes-test.true) c.in_ok-put_byte.ensures

pub returns : goal.returns
returns c = each_end (λ _ byte. byte_text byte) c.args.bytes.now c.bytes.byte-index _ c.bytes.text c.bytes.invariant c.bytes-test.false
