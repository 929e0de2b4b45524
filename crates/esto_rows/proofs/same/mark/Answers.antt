use Rattle.std.proofs.Common.{◌++◌, ◌∷◌, [], Contains, sym, subst, arith}
use Rattle.std.proofs.lemmas.Bool.{false≢true}
use Rattle.std.proofs.lemmas.Option.{MatchOption-at_none, MatchOption-at_some, slice_get_within}
use Rattle.esto_term.proofs.ListLemmas.{Contains-at}
use Rattle.esto_columns.specs.RowIndexes.{StandsLast}
use Rattle.esto_rows.specs.Same.{AreMarked}
use Rattle.esto_rows.proofs.SameLemmas.{is_so, is_not, marked_more}
use Rattle.esto_rows.proofs.same.mark.Goals as goal

pub returns-in_default-clause-found : goal.returns-in_default-clause-found
returns-in_default-clause-found c = is_not
    (MatchOption-at_none (¬ (Contains c.args.rows.now.rows c.args.row.now)) (StandsLast c.args.rows.now.rows c.args.row.now)
    c.in_default.is (c.find.ensures.last c.requires.own))

pub returns-in_default-clause-marked : goal.returns-in_default-clause-marked
returns-in_default-clause-marked c = λ told. absurd (false≢true told)

pub set-requires : goal.set-requires
set-requires c =
    let stands = MatchOption-at_some (¬ (Contains c.args.rows.now.rows c.args.row.now)) (StandsLast c.args.rows.now.rows c.args.row.now)
    c.in-Some.place c.in-Some.is (c.find.ensures.last c.requires.own) in
    let within = slice_get_within c.args.rows.now.rows c.in-Some.place c.args.row.now stands.at in
    let long = c.requires.long in
    omega (arith, within, long)

pub returns-clause-found : goal.returns-clause-found
returns-clause-found c =
    let stands = MatchOption-at_some (¬ (Contains c.args.rows.now.rows c.args.row.now)) (StandsLast c.args.rows.now.rows c.args.row.now)
    c.in-Some.place c.in-Some.is (c.find.ensures.last c.requires.own) in
    is_so (Contains-at c.args.rows.now.rows c.in-Some.place c.args.row.now stands.at)

pub returns-clause-marked : goal.returns-clause-marked
returns-clause-marked c = λ _ others are.
    let stands = MatchOption-at_some (¬ (Contains c.args.rows.now.rows c.args.row.now)) (StandsLast c.args.rows.now.rows c.args.row.now)
    c.in-Some.place c.in-Some.is (c.find.ensures.last c.requires.own) in
    subst (AreMarked c.args.rows.now.rows (others ++ c.args.row.now ∷ [])) (sym c.set.ensures)
    (marked_more c.args.rows.now.rows others c.args.row.now c.in-Some.place c.args.marks.now c.requires.long stands are)
