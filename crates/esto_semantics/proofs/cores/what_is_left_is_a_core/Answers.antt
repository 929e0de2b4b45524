use Rattle.std.proofs.Common.{[]}
use Rattle.esto_semantics.specs.Cores.{with_head}
use Rattle.esto_semantics.proofs.LeftLemmas.{left-chosen, left-retracts, left-among, left-IsCore, left-one}
use Rattle.esto_semantics.proofs.MapsToLemmas.{retracts-among, universal_alike}
use Rattle.esto_semantics.proofs.cores.what_is_left_is_a_core.Goals as goal

pub returns-clause-part : goal.returns-clause-part
returns-clause-part c plan left are = left-chosen plan.head [] plan.body left are

pub returns-clause-there : goal.returns-clause-there
returns-clause-there c plan left are = left-retracts plan.head [] plan.body left are

pub returns-clause-back : goal.returns-clause-back
returns-clause-back c plan left are = retracts-among plan.head left plan.body (left-among plan.head [] plan.body left are)

pub returns-clause-universal : goal.returns-clause-universal
returns-clause-universal c rules views query plan left are =
    universal_alike rules views query plan (with_head plan.head left) (left-retracts plan.head [] plan.body left are)
    (retracts-among plan.head left plan.body (left-among plan.head [] plan.body left are))

pub returns-clause-core : goal.returns-clause-core
returns-clause-core c plan left are = left-IsCore plan.head plan.body left are

pub returns-clause-one : goal.returns-clause-one
returns-clause-one c plan left other are other_are = left-one plan.head [] plan.body left other are other_are
