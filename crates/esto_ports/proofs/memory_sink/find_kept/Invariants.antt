use Rattle.std.proofs.Common.{◌≡◌, drop}
use Rattle.std.specs.FinMap as map
use Rattle.std.specs.Ordering.{nat_cmp}
use Rattle.esto_ports.proofs.memory_sink.find_kept.Given as goal

abbrev pub invariant-calls : goal.invariant-calls
invariant-calls l = map.find nat_cmp l.call l.fails ≡ map.find nat_cmp l.call (drop l.entry-index l.fails)
