use Rattle.std.proofs.Common.{Contains}
use Rattle.std.proofs.lemmas.Option.{MatchOption-at_none, MatchOption-at_some}
use Rattle.esto_columns.specs.RowIndexes.{StandsLast}
use Rattle.esto_rows.proofs.keys.Keys.note_key.Goals as goal

pub note_again-requires : goal.note_again-requires
note_again-requires c = MatchOption-at_some (¬ (Contains c.args.self.now.keys.rows c.args.key.now)) (StandsLast c.args.self.now.keys.rows c.args.key.now)
    c.in-Some.place c.in-Some.is (c.find.ensures.last c.requires.index)

pub put-requires-clause-new : goal.put-requires-clause-new
put-requires-clause-new c =
    MatchOption-at_none (¬ (Contains c.args.self.now.keys.rows c.args.key.now)) (StandsLast c.args.self.now.keys.rows c.args.key.now)
    c.in-None.is (c.find.ensures.last c.requires.index)
