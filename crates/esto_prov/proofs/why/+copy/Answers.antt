use Rattle.esto_prov.proofs.PutLemmas.{put_copy}
use Rattle.esto_prov.proofs.why.+copy.Goals as goal

pub copied_all-whys-preserved : goal.copied_all-whys-preserved
copied_all-whys-preserved t c =
    put_copy c.copied-copy.result c.args.whys.now c.whys.own c.put_made.new.items c.whys.why-index c.why-item.result c.whys-test.true c.why-item.is
    c.whys.invariant c.copied-copy.ensures c.in_ok-put_made.ensures
