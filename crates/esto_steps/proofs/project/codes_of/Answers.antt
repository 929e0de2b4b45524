use Rattle.std.proofs.Common.{map, ap, sym, ◌∙◌}
use Rattle.std.proofs.lemmas.Result.{IfOk-weaker}
use Rattle.esto_steps.specs.Meaning.{code_at}
use Rattle.esto_steps.specs.Paired.{code_or_zero}
use Rattle.esto_steps.proofs.GatherLemmas.{code_of_each}
use Rattle.esto_steps.proofs.RowLemmas.{cell_codes}
use Rattle.esto_steps.proofs.project.codes_of.Goals as goal

pub returns-in-Code : goal.returns-in-Code
returns-in-Code c = IfOk-weaker c.repeated.result _ _
    (λ made is. code_of_each c.in-Code.code c.args.rows.now.rows made c.len.result is c.len.ensures
    ∙ ap (λ it. map (λ row. code_or_zero (code_at row it)) c.args.rows.now.rows) (sym c.in-Code.is))
    c.repeated.ensures

pub returns-in-Cell : goal.returns-in-Cell
returns-in-Cell c = IfOk-weaker c.copy.result _ _
    (λ made is. is ∙ c.column.ensures ∙ cell_codes c.args.rows.now.rows c.in-Cell.place
    ∙ ap (λ it. map (λ row. code_or_zero (code_at row it)) c.args.rows.now.rows) (sym c.in-Cell.is))
    c.copy.ensures
