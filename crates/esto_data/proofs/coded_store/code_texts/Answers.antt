use Rattle.std.proofs.Common.{List, ◌++◌, ◌∷◌, [], refl, sym, subst}
use Rattle.std.proofs.lemmas.Result.{on_ok_weaker}
use Rattle.esto_columns.specs.CodedRows.{CodedRows}
use Rattle.esto_data.specs.Coding.{AreCodedLists}
use Rattle.esto_data.proofs.CodedRowLemmas.{coded_by}
use Rattle.esto_data.proofs.CodedViewLemmas.{lists_more}
use Rattle.esto_data.proofs.coded_store.code_texts.Goals as goal

pub returns-clause-rows : goal.returns-clause-rows
returns-clause-rows c = on_ok_weaker c.push.result (λ pushed lists before.
    subst (λ (those : List CodedRows). AreCodedLists c.code_rows.new.self.texts those (lists ++ c.args.texts ∷ [])) (sym pushed)
    (lists_more c.args.coded.now.facts.texts c.code_rows.new.self.texts c.args.rows.now c.in_ok-own.own lists c.args.texts c.code_rows.ensures.grown
    c.in_ok-own.ensures.rows.1 before)) c.push.ensures.ok

pub returns-in_err-own-clause-kept : goal.returns-in_err-own-clause-kept
returns-in_err-own-clause-kept c = coded_by c.args.coded.now _ c.code_rows.ensures.facts c.code_rows.ensures.ordered refl

pub returns-clause-kept : goal.returns-clause-kept
returns-clause-kept c = coded_by c.args.coded.now _ c.code_rows.ensures.facts c.code_rows.ensures.ordered refl
