use Rattle.std.proofs.Common.{length, ◌-◌, ◌≤◌}
use Rattle.std.specs.Io.KnownBytes.{Consumes}
use Rattle.esto_ports.proofs.folder_shelf.read_up_to.Given as goal

abbrev pub invariant-reading : goal.invariant-reading
invariant-reading g l = (length l.bytes ≤ l.most) × Consumes (g.F.Read.remaining l.initial.file) (g.F.Read.remaining l.file) l.bytes

abbrev pub decreases-reading : goal.decreases-reading
decreases-reading g l = l.most - length l.bytes
