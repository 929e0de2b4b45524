use Rattle.std.proofs.Common.{[], ◌∷◌, ◌++◌, sym, subst}
use Rattle.std.proofs.lemmas.Result.{on_ok_weaker}
use Rattle.esto_rows.specs.Wanted.{Know}
use Rattle.esto_rows.proofs.keys.Keys.note.Goals as goal

pub returns-in-Some-clause-know : goal.returns-in-Some-clause-know
returns-in-Some-clause-know c = on_ok_weaker c.note_key.result
    (λ known rows know. subst (λ row. Know c.note_key.new.self (rows ++ row ∷ [])) (sym c.in-Some.ensures.cases.0) (known rows know))
    c.note_key.ensures.know
