use Rattle.std.proofs.lemmas.Result.{IfOk-weaker}
use Rattle.esto_keymodel.proofs.ColumnLemmas.{columns_of}
use Rattle.esto_keymodel.proofs.facts.pair_facts.Goals as goal

pub returns-clause-columns : goal.returns-clause-columns
returns-clause-columns c =
    IfOk-weaker c.table_facts.result _ _ (λ facts. columns_of c.args.relation 3 c.args.rows.now facts c.requires) c.table_facts.ensures
