use Rattle.std.proofs.Common.{sym, ◌∙◌}
use Rattle.std.proofs.lemmas.Result.{on_ok_weaker}
use Rattle.esto_columns.proofs.StoredLemmas.{row_long, row_columns, left_row, kept_row}
use Rattle.esto_columns.proofs.stored.push_held.Goals as goal

pub holds_all-requires : goal.holds_all-requires
holds_all-requires c = row_columns c.args.rows.now.rows c.args.inputs.now c.args.at c.args.rows.now.arity c.read_row.new.codes c.items.result.now
    c.in_ok-read_row.ensures c.items.ensures c.arity-arity.ensures.fits c.requires.columns

pub returns-then-not-holds_all : goal.returns-then-not-holds_all
returns-then-not-holds_all c =
    left_row c.args.rows.now.rows c.args.inputs.now c.args.at c.args.rows.now.arity c.read_row.new.codes c.items.result.now c.in_ok-read_row.ensures
    c.items.ensures c.arity-arity.ensures.fits c.args.into.now c.if-not-holds_all.ensures

pub add-requires : goal.add-requires
add-requires c = row_long c.args.rows.now.rows c.args.inputs.now c.args.at c.args.rows.now.arity c.read_row.new.codes c.items-2.result.now
    c.in_ok-read_row.ensures c.items-2.ensures c.arity-arity.ensures.fits ∙ sym c.requires.arity

pub returns : goal.returns
returns c = on_ok_weaker c.add.result
    (kept_row c.args.rows.now.rows c.args.inputs.now c.args.at c.args.rows.now.arity c.read_row.new.codes c.items.result.now c.in_ok-read_row.ensures
    c.items.ensures c.arity-arity.ensures.fits c.args.into.now c.add.new.self c.items-2.result.now
    c.items-2.ensures c.if-not-holds_all.ensures)
    c.add.ensures.ok
