use Rattle.std.proofs.Common.{◌≡◌, map, take}
use Rattle.esto_term.specs.Order.{replaced}
use Rattle.esto_instance.proofs.replacing.replace_in_terms.Given as goal

abbrev pub invariant-terms : goal.invariant-terms
invariant-terms l = l.images ≡ map (replaced l.from l.to) (take l.term-index l.terms)
