use Rattle.std.proofs.Common.{◌≡◌, ◌+◌, length, ap, arith}
use Rattle.std.proofs.lemmas.List.{length-take}
use Rattle.esto_ports.proofs.ReadLemmas.{longer, consumed, taken}
use Rattle.esto_ports.proofs.folder_shelf.read_up_to.Goals as goal

pub reading-preserved : goal.reading-preserved
reading-preserved g c =
    let long : length c.append.new.self ≡ length c.reading.bytes + c.in-Ok.count =
    longer c.reading.bytes c.read.new.buf _ _ c.in-Ok.count c.in-Ok.ensures.bound.0 c.in_ok-append-in-Ok.ensures.ok in (
      omega (arith, c.in-Ok.ensures.bound.0, c.read.auto.buf, ap length c.bytes-in-reading-2.ensures, length-take c.min-room.result c.reading.buffer),
      consumed c.reading.bytes c.read.new.buf _ _ c.in-Ok.count c.in-Ok.ensures.bound.0 c.in_ok-append-in-Ok.ensures.ok _ _ _ c.reading.invariant.1
          c.in-Ok.ensures.bytes.0,
    )

pub reading-smaller : goal.reading-smaller
reading-smaller g c =
    let long : length c.append.new.self ≡ length c.reading.bytes + c.in-Ok.count =
    longer c.reading.bytes c.read.new.buf _ _ c.in-Ok.count c.in-Ok.ensures.bound.0 c.in_ok-append-in-Ok.ensures.ok in
    omega (arith, ap length c.bytes-in-reading.ensures, ap length c.bytes-in-reading-2.ensures)

pub slice_bounds-append-end : goal.slice_bounds-append-end
slice_bounds-append-end g c = taken c.read.new.buf _ c.in-Ok.count c.in-Ok.ensures.bound.0
