use Rattle.std.proofs.Common.{◌≤◌, ◌+◌, length, arith}
use Rattle.esto_columns.proofs.PickLemmas.{begun_none}
use Rattle.esto_columns.proofs.picks.may_stand.Goals as goal

pub returns : goal.returns
returns c = λ none.
    let codes = c.narrow-codes.result.now in
    let long = c.if-codes-end.false in
    let end = c.requires in
    let inside : c.args.at + 8 ≤ length codes = omega (arith, long, end) in
    begun_none codes c.args.column.now c.narrow-codes.ensures.0 c.args.at c.args.end c.args.code end inside c.narrow-codes.ensures.1
    (c.is_among.ensures none)
