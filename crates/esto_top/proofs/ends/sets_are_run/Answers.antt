use Rattle.esto_views.specs.Plans.{plan_query}
use Rattle.esto_top.proofs.ListLemmas.{used_exist}
use Rattle.esto_top.proofs.RunEndLemmas.{rows_exist, set_opens}
use Rattle.esto_top.proofs.ends.sets_are_run.Goals as goal

pub returns-clause-fragments : goal.returns-clause-fragments
returns-clause-fragments c = λ plan set. used_exist (plan_query plan).body set

pub returns-clause-opened : goal.returns-clause-opened
returns-clause-opened c = λ files catalogue query plan item numbers planned is are.
    set_opens c.laws_below_hold.ensures catalogue query plan planned files item is numbers are

pub returns-clause-rows : goal.returns-clause-rows
returns-clause-rows c = λ files catalogue query plan item numbers planned is are.
    rows_exist c.laws_below_hold.ensures catalogue query plan planned files item is numbers are
