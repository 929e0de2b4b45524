-- The byte-order mark with which a file may begin.
use Rattle.std.specs.Prelude.{ℕ, if◌then◌else◌, List, drop, length, nat_eq}
use Rattle.std.specs.List.{starts_with}
use Rattle.esto_ports.specs.declared.mark.TheConstants.{MARK}

-- The bytes after the one byte-order mark with which they may begin.
abbrev pub without_mark : List ℕ → List ℕ
without_mark bytes = if starts_with nat_eq bytes MARK then drop (length MARK) bytes else bytes
