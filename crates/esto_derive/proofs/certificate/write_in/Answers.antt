use Rattle.std.proofs.Common.{sym, subst}
use Rattle.esto_derive.specs.Searching.{AreAllLinks}
use Rattle.esto_derive.proofs.certificate.write_in.Goals as goal

pub write_match-requires-clause-links : goal.write_match-requires-clause-links
write_match-requires-clause-links c =
    subst (AreAllLinks c.args.entries.now c.args.set.now) (sym c.items.ensures) c.in_ok-links.ensures
