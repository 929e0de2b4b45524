use Rattle.std.proofs.Common.{[], ◌∷◌, ◌++◌, length, sym, ap, ◌∙◌}
use Rattle.std.proofs.lemmas.Option.{get_or_from_slice_get}
use Rattle.std.proofs.lemmas.Result.{on_ok_weaker}
use Rattle.esto_term.proofs.ListLemmas.{Contains-at}
use Rattle.esto_columns.proofs.rows.Rows.add_from.Goals as goal

pub add-requires : goal.add-requires
add-requires c = ap length c.items.ensures
    ∙ c.arity-arity.ensures.fits c.read_row.new.codes
    (Contains-at c.args.rows.now.rows c.args.at c.read_row.new.codes c.in_ok-read_row.ensures) ∙ sym c.requires.arity

pub returns : goal.returns
returns c = on_ok_weaker c.add.result
    (λ grown. grown ∙ ap (λ row. record { arity = c.args.self.now.arity; rows = c.args.self.now.rows ++ row ∷ [] })
    (c.items.ensures ∙ sym (get_or_from_slice_get c.args.rows.now.rows c.args.at c.read_row.new.codes [] c.in_ok-read_row.ensures)))
    c.add.ensures.ok
