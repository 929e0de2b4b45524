use Rattle.std.proofs.Common.{◌<◌, All, List, arith, sym, subst}
use Rattle.std.proofs.lemmas.List.{take_all}
use Rattle.std.proofs.lemmas.List.Elements.{All-push}
use Rattle.esto_fill.specs.declared.datasets.DatasetBytes.{DatasetBytes}
use Rattle.esto_term.proofs.PlaceLemmas.{take-item}
use Rattle.esto_part_cases.proofs.loading.are_within.Goals as goal

pub files-preserved : goal.files-preserved
files-preserved c =
    subst (λ (files : List DatasetBytes). All (λ file. file.dataset < c.args.datasets) files)
    (sym (take-item _ _ c.file-item.result c.files-test.true c.file-item.is))
    (All-push (λ (file : DatasetBytes). file.dataset < c.args.datasets) _ c.file-item.result c.files.invariant (omega (arith, c.if-file-datasets.false)))

pub returns : goal.returns
returns c =
    λ _. subst (λ (files : List DatasetBytes). All (λ file. file.dataset < c.args.datasets) files) (take_all c.files.file-index _ c.files-test.false)
    c.files.invariant
