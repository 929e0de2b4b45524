use Rattle.std.proofs.Common.{◌++◌, ◌∷◌, [], length, map, take, subst, sym, ap, ◌∙◌, arith}
use Rattle.std.proofs.lemmas.List.{length-take-le}
use Rattle.std.proofs.lemmas.Result.{on_ok_weaker}
use Rattle.esto_term.proofs.ListLemmas.{Contains-at}
use Rattle.esto_rows.specs.Wanted.{Know}
use Rattle.esto_rows.proofs.WantedLemmas.{fronts_more}
use Rattle.esto_rows.proofs.wanted.note_at.Goals as goal

pub note-requires-clause-long : goal.note-requires-clause-long
note-requires-clause-long c =
    let row = c.arity-arity.ensures.fits c.read_row.new.codes (Contains-at c.args.rows.now.rows c.args.at c.read_row.new.codes c.in_ok-read_row.ensures) in
    let wide = c.requires.wide in
    let same = ap length c.items.ensures in
    let long = length-take-le c.args.width c.items.result.now (omega (arith, row, wide, same)) in
    ap length c.front_of.ensures ∙ long ∙ sym c.requires.arity

pub note-requires-clause-index : goal.note-requires-clause-index
note-requires-clause-index c = c.requires.know.index

pub returns-clause-know : goal.returns-clause-know
returns-clause-know c = on_ok_weaker c.note.result
    (λ known. subst (Know c.note.new.self)
    (ap (λ it. map (take c.args.width) (take c.args.at c.args.rows.now.rows) ++ it ∷ []) (c.front_of.ensures ∙ ap (take c.args.width) c.items.ensures)
    ∙ fronts_more c.args.rows.now.rows c.args.at c.args.width c.read_row.new.codes c.in_ok-read_row.ensures)
    (known (map (take c.args.width) (take c.args.at c.args.rows.now.rows)) c.requires.know))
    c.note.ensures.know
