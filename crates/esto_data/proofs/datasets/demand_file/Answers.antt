use Rattle.std.proofs.Common.{refl}
use Rattle.esto_data.proofs.DatasetLemmas.{file_absent, file_there}
use Rattle.esto_data.proofs.datasets.demand_file.Goals as goal

pub returns-in-Some : goal.returns-in-Some
returns-in-Some c = λ place.
    file_there c.args.datasets.now c.args.number place c.item-dataset.result.now c.item-dataset.ensures (rw c.in-Some.is refl)

pub returns-in_ok-name-in-None : goal.returns-in_ok-name-in-None
returns-in_ok-name-in-None c = λ place.
    file_absent c.args.datasets.now c.args.number place c.item-dataset.result.now c.in_ok-name-in-None.name c.item-dataset.ensures
    (λ some. let none = rw c.in-None.is at some in absurd (cc)) c.in_ok-name-in-None.ensures
