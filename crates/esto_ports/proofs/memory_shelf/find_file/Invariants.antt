use Rattle.std.proofs.Common.{◌≡◌, drop}
use Rattle.std.specs.FinMap as map
use Rattle.std.specs.Ordering.{nat_cmp}
use Rattle.std.specs.Cmp.Lexicographic.{slice_cmp}
use Rattle.esto_ports.proofs.memory_shelf.find_file.Given as goal

abbrev pub invariant-names : goal.invariant-names
invariant-names l = map.find (slice_cmp nat_cmp) l.name l.files ≡ map.find (slice_cmp nat_cmp) l.name (drop l.file-index l.files)
