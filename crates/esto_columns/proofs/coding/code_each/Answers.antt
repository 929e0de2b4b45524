use Rattle.std.proofs.Common.{◌<◌, set, length, sym, subst, ap, ◌∙◌, arith}
use Rattle.std.proofs.lemmas.List.{length-set, take_all}
use Rattle.esto_columns.specs.Interned.{AreCodedRows}
use Rattle.esto_columns.proofs.CodingLemmas.{row_taken, grows_on, left_row, left_inside, left_after}
use Rattle.esto_columns.proofs.coding.code_each.Goals as goal

pub item-requires : goal.item-requires
item-requires c =
    let below = c.rows-test.true in
    let count = c.len-at-end.ensures in
    let long = c.rows.invariant.long in
    omega (arith, below, count, long)

pub add_coded-requires : goal.add_coded-requires
add_coded-requires c =
    let below = c.rows-test.true in
    let count = c.len-at-end.ensures in
    c.requires c.item.result.now (left_inside c.args.rows.now c.rows.rows c.rows.at c.item.result.now (omega (arith, below, count))
    c.item.ensures (c.rows.invariant.left c.rows.at (omega arith))) ∙ sym c.rows.invariant.arity

pub returns-in_err-add_coded-clause-grown : goal.returns-in_err-add_coded-clause-grown
returns-in_err-add_coded-clause-grown c = grows_on c.args.codes.now c.rows.codes c.add_coded.new.codes c.rows.invariant.grown c.add_coded.ensures.grown

pub rows-preserved : goal.rows-preserved
rows-preserved c =
    let test = c.rows-test.true in
    let count = c.len-at-end.ensures in
    let below : c.rows.at < length c.args.rows.now = omega (arith, test, count) in
    record {
      arity = c.in_ok-add_coded.ensures.arity ∙ c.rows.invariant.arity;
      coded = subst (AreCodedRows c.add_coded.new.codes c.add_coded.new.coded.rows)
          (row_taken c.args.rows.now c.rows.at c.item.result.now below
          (left_row c.args.rows.now c.rows.rows c.rows.at c.item.result.now below c.item.ensures (c.rows.invariant.left c.rows.at (omega arith))))
          (c.in_ok-add_coded.ensures.coded _ c.rows.invariant.coded);
      left = left_after c.args.rows.now c.rows.rows c.set.new.self c.rows.at (c.set.ensures ∙ ap (set c.rows.rows c.rows.at) c.new-in-rows.ensures)
          c.rows.invariant.left;
      long = ap length c.set.ensures ∙ length-set c.rows.rows c.rows.at _ ∙ c.rows.invariant.long;
      within = omega (arith, below);
      grown = grows_on c.args.codes.now c.rows.codes c.add_coded.new.codes c.rows.invariant.grown c.add_coded.ensures.grown;
    }

pub returns-clause-coded : goal.returns-clause-coded
returns-clause-coded c =
    let past = c.rows-test.false in
    let count = c.len-at-end.ensures in
    subst (AreCodedRows c.rows.codes c.rows.coded.rows) (take_all c.rows.at c.args.rows.now (omega (arith, past, count))) c.rows.invariant.coded
