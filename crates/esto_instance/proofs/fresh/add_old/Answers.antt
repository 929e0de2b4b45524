use Rattle.std.proofs.Common.{refl}
use Rattle.esto_instance.proofs.FreshLemmas.{old_more}
use Rattle.esto_instance.proofs.fresh.add_old.Goals as goal

pub facts-preserved : goal.facts-preserved
facts-preserved c =
    old_more c.args.facts.now c.facts.fact-index c.fact-item.result c.facts-test.true c.fact-item.is
    c.args.entries.now.items c.facts.entries.items c.push.new.self.items _ c.in-Ok.ensures.items (refl, refl) c.facts.invariant
