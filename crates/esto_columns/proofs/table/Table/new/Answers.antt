use Rattle.std.proofs.Common.{ℕ, [], ◌∷◌, ◌++◌, length, sym, subst, ap, ◌∙◌, arith}
use Rattle.std.proofs.lemmas.List.{length-replicate, replicate_more}
use Rattle.esto_columns.specs.Columns.{HaveLength}
use Rattle.esto_columns.proofs.RowLemmas.{replicate_have}
use Rattle.esto_columns.proofs.table.Table.new.Goals as goal

pub columns-preserved : goal.columns-preserved
columns-preserved c =
    c.in-Ok.ensures.items ∙ ap (λ column. c.columns.columns.items ++ column ∷ []) c.in_ok-column.ensures
    ∙ ap (λ columns. columns ++ [] ∷ []) c.columns.invariant ∙ replicate_more c.columns._column []

pub invariant_of-result : goal.invariant_of-result
invariant_of-result c = subst (HaveLength 0) (sym c.columns.invariant) (replicate_have c.columns._column)

pub columns-init : goal.columns-init
columns-init c = c.new-columns.ensures.items

pub returns : goal.returns
returns c =
    let long = ap length c.columns.invariant ∙ length-replicate c.columns._column [] in
    let past = c.columns-test.false in
    let within = c.columns.auto._column-end in
    ap (λ (count : ℕ). record { arity = count; rows = [] }) (omega (arith, long, past, within))
