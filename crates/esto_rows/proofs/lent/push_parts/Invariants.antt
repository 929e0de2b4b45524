use Rattle.std.proofs.Common.{◌≡◌, ◌++◌, ◌-◌, map}
use Rattle.esto_rows.specs.Lent.{lent_rows, rows_in}
use Rattle.esto_rows.proofs.lent.push_parts.Given as goal

-- the rows so far and those in what is left are all
abbrev pub invariant-rows : goal.invariant-rows
invariant-rows l = lent_rows l.rows.items ++ rows_in l.arity (l.count - l._row) (map (λ text. text.now) l.rest)
    ≡ rows_in l.arity l.count (map (λ text. text.now) l.texts)
