use Rattle.std.proofs.Common.{◌∙◌, sym}
use Rattle.esto_data.proofs.coded_store.code_opened.Goals as goal

pub code_texts-requires : goal.code_texts-requires
code_texts-requires c = λ row inside. c.in_ok-texts.ensures.wide row inside ∙ sym c.len.ensures

pub returns-clause-rows : goal.returns-clause-rows
returns-clause-rows c =
    (c.in_ok-texts.ensures.rows.0, (c.in_ok-texts.texts, c.in_ok-texts.ensures.rows.1, c.in_ok-code_texts.ensures.rows))

pub returns-in_err-texts-clause-kept : goal.returns-in_err-texts-clause-kept
returns-in_err-texts-clause-kept c loaded its = its

pub returns-in_err-code_texts-clause-kept : goal.returns-in_err-code_texts-clause-kept
returns-in_err-code_texts-clause-kept c = c.code_texts.ensures.kept

pub returns-clause-kept : goal.returns-clause-kept
returns-clause-kept c = c.code_texts.ensures.kept
