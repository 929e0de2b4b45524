use Rattle.esto_semantics.proofs.CoreLemmas.{renamed-there, renamed-back, renamed-IsCore}
use Rattle.esto_semantics.proofs.cores.renamed_plans_are_alike.Goals as goal

pub returns-clause-there : goal.returns-clause-there
returns-clause-there c = renamed-there

pub returns-clause-back : goal.returns-clause-back
returns-clause-back c = renamed-back

pub returns-clause-core : goal.returns-clause-core
returns-clause-core c = renamed-IsCore
