use Rattle.std.proofs.Common.{◌≡◌, drop}
use Rattle.std.specs.List.{list_all}
use Rattle.esto_mapping.specs.Datasets.{is_name_byte}
use Rattle.esto_mapping.proofs.columns.are_name_bytes.Given as goal

-- what is left decides
abbrev pub invariant-bytes : goal.invariant-bytes
invariant-bytes l = list_all is_name_byte l.bytes ≡ list_all is_name_byte (drop l.byte-index l.bytes)
