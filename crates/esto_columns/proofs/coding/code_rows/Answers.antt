use Rattle.std.proofs.Common.{Contains, sym, subst, ◌∙◌}
use Rattle.std.proofs.lemmas.List.{take_all}
use Rattle.esto_columns.specs.Interned.{AreCodedRows}
use Rattle.esto_columns.proofs.CodingLemmas.{row_taken, grows_on}
use Rattle.esto_columns.proofs.coding.code_rows.Goals as goal

pub add_coded-requires : goal.add_coded-requires
add_coded-requires c =
    c.requires c.row-item.result (subst (λ them. Contains them c.row-item.result) c.items-row-items.ensures
    (c.rows.row-index, c.rows-test.true, sym c.row-item.is)) ∙ sym c.rows.invariant.arity

pub returns-in_err-add_coded-clause-grown : goal.returns-in_err-add_coded-clause-grown
returns-in_err-add_coded-clause-grown c = grows_on c.args.codes.now c.rows.codes c.add_coded.new.codes c.rows.invariant.grown c.add_coded.ensures.grown

pub rows-preserved : goal.rows-preserved
rows-preserved c = record {
  arity = c.in_ok-add_coded.ensures.arity ∙ c.rows.invariant.arity;
  coded = subst (AreCodedRows c.add_coded.new.codes c.add_coded.new.coded.rows)
      (row_taken c.items-row-items.result.now c.rows.row-index c.row-item.result c.rows-test.true c.row-item.is)
      (c.in_ok-add_coded.ensures.coded _ c.rows.invariant.coded);
  grown = grows_on c.args.codes.now c.rows.codes c.add_coded.new.codes c.rows.invariant.grown c.add_coded.ensures.grown;
}

pub returns-clause-coded : goal.returns-clause-coded
returns-clause-coded c = subst (AreCodedRows c.rows.codes c.rows.coded.rows)
    (take_all c.rows.row-index c.items-row-items.result.now c.rows-test.false ∙ c.items-row-items.ensures) c.rows.invariant.coded
