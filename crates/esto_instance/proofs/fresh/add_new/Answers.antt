use Rattle.std.proofs.Common.{refl}
use Rattle.esto_instance.proofs.FreshLemmas.{new_more}
use Rattle.esto_instance.proofs.fresh.add_new.Goals as goal

pub facts-preserved : goal.facts-preserved
facts-preserved c =
    new_more c.args.facts.now c.facts.place c.index-facts-place.result c.facts-test.true c.index-facts-place.is
    c.args.entries.now.items c.facts.entries.items c.push.new.self.items _ c.in-Ok.ensures.items (refl, refl) c.facts.invariant
