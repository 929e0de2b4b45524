use Rattle.std.proofs.Common.{◌↔◌, drop}
use Rattle.std.specs.List.{AllZip}
use Rattle.esto_cert.specs.Linking.{StandsAsOne}
use Rattle.esto_cert.proofs.linking.stand_as_one.Given as goal

abbrev pub invariant-places : goal.invariant-places
invariant-places l = AllZip (StandsAsOne l.renamings) (drop l.place l.terms) (drop l.place l.others) ↔ AllZip (StandsAsOne l.renamings) l.terms l.others
