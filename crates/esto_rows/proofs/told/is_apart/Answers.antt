use Rattle.esto_rows.proofs.ToldLemmas.{keys_more, shows_apart}
use Rattle.esto_rows.proofs.told.is_apart.Goals as goal

pub returns-clause-own : goal.returns-clause-own
returns-clause-own c =
    keys_more c.args.rows.now.rows c.args.at c.read_row.new.codes c.items-2.result.now c.key_of.result.now c.args.index.now c.add.new.self
    c.in_ok-read_row.ensures c.items-2.ensures c.key_of.ensures c.requires.own c.in_ok-add.ensures.ok

pub returns-clause-apart : goal.returns-clause-apart
returns-clause-apart c =
    shows_apart c.args.rows.now.rows c.args.at c.read_row.new.codes c.items.result.now c.in_ok-apart.apart c.in_ok-read_row.ensures c.items.ensures
    c.in_ok-apart.ensures c.requires.told
