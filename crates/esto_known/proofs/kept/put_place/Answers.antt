use Rattle.std.proofs.lemmas.Result.{on_ok_weaker}
use Rattle.esto_known.proofs.TellLemmas.{tells_constant, tells_apart, tells_inside, tells_pushed}
use Rattle.esto_known.proofs.kept.put_place.Goals as goal

pub returns-then-is_constant-clause-told : goal.returns-then-is_constant-clause-told
returns-then-is_constant-clause-told c = tells_constant c.args.from.now c.args.places.now c.args.term.now (c.is_constant.ensures.0 c.if-is_constant.true)

pub returns-in-None-clause-told : goal.returns-in-None-clause-told
returns-in-None-clause-told c = tells_apart c.args.from.now c.args.places.now c.args.term.now c.in-None.ensures

pub returns-then-has_place-clause-told : goal.returns-then-has_place-clause-told
returns-then-has_place-clause-told c = tells_inside c.args.from.now c.args.term.now c.args.places.now c.items.result.now _ c.items.ensures c.in-Some.ensures
    (c.has_place.ensures c.if-has_place.true)

pub returns-else-has_place-clause-told : goal.returns-else-has_place-clause-told
returns-else-has_place-clause-told c = on_ok_weaker c.push.result (λ grown. tells_pushed c.args.from.now c.args.term.now c.args.places.now _ _ grown
    c.in-Some.ensures) c.push.ensures.ok
