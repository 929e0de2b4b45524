use Rattle.std.proofs.Common.{take}
use Rattle.esto_fill.specs.Files.{IsLoadedFrom}
use Rattle.esto_data.proofs.kept.load_again.Given as goal

-- what is loaded is that of the files so far
abbrev pub invariant-files : goal.invariant-files
invariant-files l = IsLoadedFrom l.catalogue.datasets l.wanted (take l.file-index l.file-items) l.loaded
