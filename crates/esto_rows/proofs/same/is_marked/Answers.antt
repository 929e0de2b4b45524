use Rattle.std.proofs.Common.{◌↔◌, ◌<◌, false, IsTrue, Contains, sym, subst, ◌∙◌, arith}
use Rattle.std.proofs.lemmas.Option.{same_Some, MatchOption-at_none, MatchOption-at_some, get_or_from_slice_get, slice_get_within}
use Rattle.esto_term.proofs.ListLemmas.{Contains-at}
use Rattle.esto_columns.specs.RowIndexes.{StandsLast}
use Rattle.esto_rows.proofs.SameLemmas.{is_so, marked_there, last_told}
use Rattle.esto_rows.proofs.same.is_marked.Goals as goal

pub item-requires : goal.item-requires
item-requires c = subst (λ it. c.args.at < it) (sym c.requires.long) c.requires.there

pub returns-then-item : goal.returns-then-item
returns-then-item c = λ others held are there. is_so (marked_there c.args.rows.now.rows others c.args.marks.now c.args.at held are
    (get_or_from_slice_get c.args.marks.now c.args.at c.item.result false c.item.ensures ∙ c.if-item.true) there)

pub item-requires-in-Some : goal.item-requires-in-Some
item-requires-in-Some c =
    let stands = MatchOption-at_some (¬ (Contains c.args.rows.now.rows c.items.result.now)) (StandsLast c.args.rows.now.rows c.items.result.now)
    c.in-Some.place c.in-Some.is (c.find.ensures.last c.requires.own) in
    let within = slice_get_within c.args.rows.now.rows c.in-Some.place c.items.result.now stands.at in
    let long = c.requires.long in
    omega (arith, within, long)

pub returns-in-Some : goal.returns-in-Some
returns-in-Some c = λ others held are there.
    let stands = MatchOption-at_some (¬ (Contains c.args.rows.now.rows c.items.result.now)) (StandsLast c.args.rows.now.rows c.items.result.now)
    c.in-Some.place c.in-Some.is (c.find.ensures.last c.requires.own) in
    subst (λ row. IsTrue c.item-in-Some.result ↔ Contains others row)
    (c.items.ensures ∙ same_Some c.read_row.new.codes held (sym c.in_ok-read_row.ensures ∙ there))
    (last_told c.args.rows.now.rows others c.args.marks.now c.in-Some.place c.items.result.now c.item-in-Some.result are stands
    (get_or_from_slice_get c.args.marks.now c.in-Some.place c.item-in-Some.result false c.item-in-Some.ensures))

pub returns-in-None : goal.returns-in-None
returns-in-None c = λ others held are there.
    absurd (MatchOption-at_none (¬ (Contains c.args.rows.now.rows c.items.result.now)) (StandsLast c.args.rows.now.rows c.items.result.now)
    c.in-None.is (c.find.ensures.last c.requires.own)
    (subst (Contains c.args.rows.now.rows) (sym (c.items.ensures ∙ same_Some c.read_row.new.codes held (sym c.in_ok-read_row.ensures ∙ there)))
    (Contains-at c.args.rows.now.rows c.args.at held there)))
