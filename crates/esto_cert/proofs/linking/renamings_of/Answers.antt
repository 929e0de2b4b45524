use Rattle.std.proofs.Common.{List, [], sym, subst, arith}
use Rattle.esto_cert.specs.Linking.{IsAmong, Tells}
use Rattle.esto_cert.specs.declared.linking.Equality.{Equality}
use Rattle.esto_cert.proofs.LinkLemmas.{tells_nothing, tells_step, tells_end}
use Rattle.esto_cert.proofs.linking.renamings_of.Goals as goal

pub equalities-init : goal.equalities-init
equalities-init c = λ facts. subst (λ (it : List Equality). Tells it (IsAmong facts [])) (sym c.new-renamings.ensures) (tells_nothing facts)

pub equalities-preserved : goal.equalities-preserved
equalities-preserved c = λ facts.
    tells_step facts c.equalities.renamings c.args.equalities.now c.equalities.equality-index (c.equalities.invariant facts) c.push.new.self c.items.result.now
    c.equality-item.result c.in_ok-renaming.renaming c.equalities-test.true c.equality-item.is c.items.ensures c.in_ok-renaming.ensures c.in_ok-push.ensures.ok

pub returns : goal.returns
returns c = λ facts. tells_end facts c.equalities.renamings c.args.equalities.now c.equalities.equality-index (c.equalities.invariant facts)
    (omega (arith, c.equalities-test.false))
