use Rattle.std.proofs.Common.{◌≡◌, All, length, arith, sym, subst}
use Rattle.std.proofs.lemmas.List.{take_all}
use Rattle.std.proofs.lemmas.List.Elements.{All-push}
use Rattle.esto_term.proofs.PlaceLemmas.{take-item}
use Rattle.esto_part_cases.proofs.models.have_cells.Goals as goal

pub rows-preserved : goal.rows-preserved
rows-preserved c =
    subst (λ rows. All (λ row. length row ≡ c.args.cells) rows) (sym (take-item _ _ c.row-item.result c.rows-test.true c.row-item.is))
    (All-push (λ row. length row ≡ c.args.cells) _ c.row-item.result c.rows.invariant (omega (arith, c.len.ensures, c.if-len-cells.false)))

pub returns : goal.returns
returns c = λ _. subst (λ rows. All (λ row. length row ≡ c.args.cells) rows) (take_all c.rows.row-index _ c.rows-test.false) c.rows.invariant
