use Rattle.std.proofs.Common.{◌<◌, arith, inl, length}
use Rattle.esto_data.specs.Datasets.{IsAny}
use Rattle.esto_data.proofs.DatasetLemmas.{needed_all, needed_more}
use Rattle.esto_term.proofs.ListLemmas.{thing_at}
use Rattle.esto_data.proofs.kept.all_datasets.Goals as goal

pub datasets-preserved : goal.datasets-preserved
datasets-preserved c =
    let below : c.datasets.number < length c.args.datasets.now = omega (arith, c.datasets-test.true, c.len-number-end.ensures) in
    let dataset = thing_at c.args.datasets.now c.datasets.number below in
    needed_more c.args.datasets.now IsAny c.datasets.number dataset.0 dataset.1 c.datasets.numbers c.push.new.self c.datasets.invariant
    (inl (tt, c.in_ok-push.ensures.ok))

pub returns : goal.returns
returns c = needed_all c.args.datasets.now IsAny c.datasets.number c.datasets.numbers c.datasets.invariant
    (omega (arith, c.datasets-test.false, c.len-number-end.ensures))
