use Rattle.std.proofs.Common.{◌≡◌, take}
use Rattle.esto_semantics.specs.Facts.{terms_of}
use Rattle.esto_prov.proofs.taking.terms_of.Given as goal

abbrev pub invariant-atoms : goal.invariant-atoms
invariant-atoms l = l.terms ≡ terms_of (take l.atom-index l.atoms)
