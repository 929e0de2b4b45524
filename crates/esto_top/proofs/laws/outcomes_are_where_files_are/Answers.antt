use Rattle.esto_top.proofs.ToldLemmas.{fetches_exist, outcomes_have_files, outcomes_lack_none, outcomes_where_files_are}
use Rattle.esto_top.proofs.laws.outcomes_are_where_files_are.Goals as goal

pub returns-clause-fetches : goal.returns-clause-fetches
returns-clause-fetches c = λ words files. fetches_exist c.outcomes_exist.ensures words files

pub returns-clause-files : goal.returns-clause-files
returns-clause-files c = λ words files outcome. outcomes_have_files words files outcome

pub returns-clause-lacks : goal.returns-clause-lacks
returns-clause-lacks c = λ words files outcome lacks. outcomes_lack_none c.outcomes_are_determined.ensures.fetches words files outcome lacks

pub returns-clause-exactly : goal.returns-clause-exactly
returns-clause-exactly c = λ words files. outcomes_where_files_are c.outcomes_exist.ensures c.outcomes_are_determined.ensures.fetches words files
