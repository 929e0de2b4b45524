use Rattle.std.proofs.Common.{◌≡◌, map, take}
use Rattle.esto_views.specs.Renamings.{name_of}
use Rattle.esto_views.proofs.renaming.names_of.Given as goal

abbrev pub invariant-terms : goal.invariant-terms
invariant-terms l = l.found ≡ map (name_of l.names) (take l.term-index l.terms)
