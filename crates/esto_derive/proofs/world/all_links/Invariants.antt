use Rattle.esto_derive.proofs.ChainLemmas.{AreLinksBelow}
use Rattle.esto_derive.proofs.world.all_links.Given as goal

abbrev pub invariant-entries : goal.invariant-entries
invariant-entries l = AreLinksBelow l.entries l.set l.place l.links
