use Rattle.esto_top.proofs.UnionEndLemmas.{union_list_ends, union_run_ends}
use Rattle.esto_top.proofs.ends.unions_are_listed_and_run.Goals as goal

pub returns-clause-list : goal.returns-clause-list
returns-clause-list c = λ catalogue queries some. union_list_ends c.laws_below_hold.ensures catalogue queries some

pub returns-clause-run : goal.returns-clause-run
returns-clause-run c = λ files catalogue queries some number. union_run_ends c.laws_below_hold.ensures catalogue files queries some number
