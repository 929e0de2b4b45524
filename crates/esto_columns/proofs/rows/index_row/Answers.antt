use Rattle.std.proofs.Common.{map, take, subst}
use Rattle.std.proofs.lemmas.Result.{on_ok_weaker}
use Rattle.esto_columns.specs.Indexed.{IsIndexOf, key_at}
use Rattle.esto_columns.proofs.RowIndexLemmas.{keys_more}
use Rattle.esto_columns.proofs.rows.index_row.Goals as goal

pub returns : goal.returns
returns c = on_ok_weaker c.add.result
    (λ added. subst (IsIndexOf c.add.new.self)
    (keys_more c.args.columns.now c.args.table.now.rows c.args.at c.read_row.new.codes c.items.result.now c.read_key.new.key c.items-2.result.now
    c.requires.there c.in_ok-read_row.ensures c.items.ensures c.in_ok-read_key.ensures c.items-2.ensures)
    (added (map (key_at c.args.columns.now) (take c.args.at c.args.table.now.rows)) c.requires.own))
    c.add.ensures.ok
