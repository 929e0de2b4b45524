use Rattle.std.proofs.Common.{◌≡◌, drop}
use Rattle.esto_cert.specs.Linking.{standing}
use Rattle.esto_cert.proofs.linking.standing.Given as goal

abbrev pub invariant-renamings : goal.invariant-renamings
invariant-renamings l = standing (drop l.renaming-index l.renamings) l.stands ≡ standing l.renamings l.term
