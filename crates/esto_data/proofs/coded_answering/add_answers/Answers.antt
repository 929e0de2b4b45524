use Rattle.std.proofs.Common.{◌++◌, ◌∷◌, [], sym, subst, ap, ◌∙◌}
use Rattle.std.proofs.lemmas.Result.{on_ok_weaker}
use Rattle.esto_columns.specs.CodedRows.{CodedRows}
use Rattle.esto_data.specs.CodedParts.{AreRowsOf, IsUnionRow}
use Rattle.esto_data.proofs.CodedRowLemmas.{rows_more}
use Rattle.esto_data.proofs.coded_answering.add_answers.Goals as goal

pub put_rows-requires : goal.put_rows-requires
put_rows-requires c = c.requires ∙ sym c.in_ok-own.ensures.arity

pub returns-clause-rows : goal.returns-clause-rows
returns-clause-rows c = on_ok_weaker c.put_rows.result (λ put queries loaded its before.
    subst (λ (it : CodedRows). AreRowsOf c.rows_of.new.coded.facts.texts it.rows (IsUnionRow (queries ++ c.args.query.now ∷ []) loaded.facts))
    (sym put)
    (rows_more c.args.coded.now.facts.texts c.rows_of.new.coded.facts.texts c.args.rows.now.rows c.in_ok-own.own.rows queries c.args.query.now loaded.facts
    c.rows_of.ensures.stays.grown c.in_ok-own.ensures.telling.few before (c.in_ok-own.ensures.rows loaded its)))
    c.put_rows.ensures

pub returns-clause-arity : goal.returns-clause-arity
returns-clause-arity c = on_ok_weaker c.put_rows.result (ap (λ (it : CodedRows). it.arity)) c.put_rows.ensures
