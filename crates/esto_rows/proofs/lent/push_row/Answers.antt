use Rattle.std.proofs.Common.{Contains, subst}
use Rattle.std.proofs.lemmas.Result.{on_ok_weaker}
use Rattle.esto_term.proofs.ListLemmas.{Contains-at}
use Rattle.esto_rows.proofs.LentLemmas.{row_pushed}
use Rattle.esto_rows.proofs.lent.push_row.Goals as goal

pub push_texts-requires : goal.push_texts-requires
push_texts-requires c = λ code inside.
    c.requires.coded c.read_row.new.codes (Contains-at c.args.rows.now.rows c.args.at c.read_row.new.codes c.in_ok-read_row.ensures) code
    (subst (λ them. Contains them code) c.items.ensures inside)

pub returns : goal.returns
returns c = on_ok_weaker c.push_texts.result
    (λ adds. row_pushed c.args.codes.now c.args.rows.now.rows c.args.at c.read_row.new.codes c.items.result.now _ _
    c.requires.there c.in_ok-read_row.ensures c.items.ensures c.requires.before adds)
    c.push_texts.ensures
