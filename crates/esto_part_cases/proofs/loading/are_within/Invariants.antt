use Rattle.std.proofs.Common.{◌<◌, All, take}
use Rattle.esto_part_cases.proofs.loading.are_within.Given as goal

-- the files so far are of such datasets
abbrev pub invariant-files : goal.invariant-files
invariant-files l = All (λ file. file.dataset < l.datasets) (take l.file-index l.files)
