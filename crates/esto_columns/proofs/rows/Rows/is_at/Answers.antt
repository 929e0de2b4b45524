use Rattle.std.proofs.Common.{◌<◌, [], get_or, refl, sym, subst, ap, ◌∙◌, arith}
use Rattle.std.proofs.lemmas.Bool.{false≢true}
use Rattle.std.proofs.lemmas.Option.{get_or_from_slice_get}
use Rattle.esto_columns.proofs.FindLemmas.{codes_there, code_there, columns_more}
use Rattle.esto_columns.proofs.rows.Rows.is_at.Goals as goal

pub columns-init : goal.columns-init
columns-init c = λ column below. absurd (omega (arith, below))

pub columns-preserved : goal.columns-preserved
columns-preserved c = columns_more c.args.self.now.rows c.args.place c.args.row.now c.columns.column c.columns.invariant
    (sym (code_there c.args.self.now.rows c.args.place c.columns.column c.column.result.now c.item.result
    (subst (λ it. c.args.place < it) c.len.ensures c.if-place-len.false) c.column.ensures c.item.ensures) ∙ c.if-item-row.false)

pub returns-then-item-row : goal.returns-then-item-row
returns-then-item-row c = (
  λ wrong. absurd (false≢true wrong),
  λ at. absurd (c.if-item-row.true
      (code_there c.args.self.now.rows c.args.place c.columns.column c.column.result.now c.item.result
      (subst (λ it. c.args.place < it) c.len.ensures c.if-place-len.false) c.column.ensures c.item.ensures
      ∙ ap (λ row. get_or row c.columns.column 0) (get_or_from_slice_get c.args.self.now.rows c.args.place c.args.row.now [] at))),
)

pub returns : goal.returns
returns c = (
  λ _. codes_there c.args.self.now.rows c.args.place c.args.self.now.arity c.args.row.now
      (subst (λ it. c.args.place < it) c.len.ensures c.if-place-len.false) c.arity-arity.ensures.fits (c.if-row-arity.false ∙ c.arity-arity.ensures.value)
      (λ column within. c.columns.invariant column
      (let past = c.columns-test.false in let value = c.arity-arity.ensures.value in omega (arith, within, past, value))),
  λ _. refl,
)
