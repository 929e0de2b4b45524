use Rattle.esto_prov.proofs.PutLemmas.{put_behind}
use Rattle.esto_prov.proofs.lists.put_terms.Goals as goal

pub more-preserved : goal.more-preserved
more-preserved c =
    put_behind c.args.more.now c.args.terms.now c.more.terms c.push.new.self c.more.term-index c.term-item.result c.in_ok-own.own c.more-test.true
    c.term-item.is c.more.invariant c.in_ok-own.ensures c.in_ok-push.ensures.ok
