use Rattle.std.proofs.Common.{◌<◌, [], ◌∷◌, ◌++◌, take, get_or, sym, subst, ap, ◌∙◌, arith}
use Rattle.std.proofs.lemmas.List.{append-nil, append_assoc, take_more, take_all}
use Rattle.esto_columns.specs.CodedRows.{CodedRows}
use Rattle.esto_columns.proofs.rows.Rows.add_all.Goals as goal

pub rows-init : goal.rows-init
rows-init c = ap (λ them. record { arity = c.args.self.now.arity; rows = them }) (sym (append-nil c.args.self.now.rows))

pub add_from-requires-clause-there : goal.add_from-requires-clause-there
add_from-requires-clause-there c = subst (λ it. c.rows.at < it) c.len-at-end.ensures c.rows-test.true

pub add_from-requires-clause-arity : goal.add_from-requires-clause-arity
add_from-requires-clause-arity c = ap (λ (it : CodedRows). it.arity) c.rows.invariant ∙ c.requires

pub rows-preserved : goal.rows-preserved
rows-preserved c =
    let rows = c.args.rows.now.rows in
    let row = get_or rows c.rows.at [] in
    c.in_ok-add_from.ensures ∙ ap (λ (it : CodedRows). record { arity = it.arity; rows = it.rows ++ row ∷ [] }) c.rows.invariant
    ∙ ap (λ them. record { arity = c.args.self.now.arity; rows = them })
    (append_assoc c.args.self.now.rows (take c.rows.at rows) (row ∷ []) ∙ ap (λ them. c.args.self.now.rows ++ them)
    (sym (take_more rows c.rows.at [] (subst (λ it. c.rows.at < it) c.len-at-end.ensures c.rows-test.true))))

pub returns : goal.returns
returns c = c.rows.invariant
    ∙ ap (λ them. record { arity = c.args.self.now.arity; rows = c.args.self.now.rows ++ them })
    (take_all c.rows.at c.args.rows.now.rows (let past = c.rows-test.false in let count = c.len-at-end.ensures in omega (arith, past, count)))
