use Rattle.std.proofs.Common.{arith}
use Rattle.std.proofs.lemmas.List.{nil_from_length}
use Rattle.std.proofs.lemmas.Result.{IfOk-weaker}
use Rattle.esto_query.proofs.LeastLemmas.{if_least, if_none, HasNoMatch-empty}
use Rattle.esto_query.proofs.matches.least_after.Goals as goal

pub returns-then-is_empty-clause-none : goal.returns-then-is_empty-clause-none
returns-then-is_empty-clause-none c = HasNoMatch-empty c.args.body.now c.args.facts.now c.args.start.now c.args.after.now (nil_from_length _ (grind arith))

pub returns-clause-found : goal.returns-clause-found
returns-clause-found c =
    let follows = rw c.items.ensures at c.in_ok-from.ensures in
    IfOk-weaker c.least_match.result _ _ (if_least c.args.body.now c.args.facts.now c.args.start.now c.args.after.now _ follows)
    (rw c.items-2.ensures at c.least_match.ensures.found)

pub returns-clause-none : goal.returns-clause-none
returns-clause-none c =
    let follows = rw c.items.ensures at c.in_ok-from.ensures in
    IfOk-weaker c.least_match.result _ _ (if_none c.args.body.now c.args.facts.now c.args.start.now c.args.after.now _ follows)
    (rw c.items-2.ensures at c.least_match.ensures.none)
