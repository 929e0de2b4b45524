use Rattle.std.proofs.Common.{Contains, ◌∙◌}
use Rattle.std.proofs.lemmas.Option.{MatchOption-at_none, MatchOption-at_some}
use Rattle.esto_columns.specs.RowIndexes.{StandsLast}
use Rattle.esto_rows.proofs.WantedLemmas.{apart_found, apart_there}
use Rattle.esto_rows.proofs.keys.Keys.is_apart.Goals as goal

pub returns-in-Some-find : goal.returns-in-Some-find
returns-in-Some-find c = λ apart. c.has.ensures
    ∙ apart_found c.args.self.now c.args.row.now c.in-Some.field-0-0.now c.in-Some.key.now c.in-Some-find.place c.in-Some.ensures.cases.0
    (λ index. MatchOption-at_some (¬ (Contains c.args.self.now.keys.rows c.in-Some.key.now)) (StandsLast c.args.self.now.keys.rows c.in-Some.key.now)
    c.in-Some-find.place c.in-Some-find.is (c.find.ensures.last index))
    apart

pub returns-in-None : goal.returns-in-None
returns-in-None c = λ apart. absurd
    (apart_there c.args.self.now c.args.row.now c.in-Some.field-0-0.now c.in-Some.key.now c.in-Some.ensures.cases.0
    (λ index. MatchOption-at_none (¬ (Contains c.args.self.now.keys.rows c.in-Some.key.now)) (StandsLast c.args.self.now.keys.rows c.in-Some.key.now)
    c.in-None.is (c.find.ensures.last index))
    apart)
