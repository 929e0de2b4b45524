use Rattle.std.proofs.Common.{◌≡◌, ◌++◌, take}
use Rattle.esto_prov.proofs.lists.put_terms.Given as goal

abbrev pub invariant-more : goal.invariant-more
invariant-more l = l.terms ≡ l.fn.terms ++ take l.term-index l.more
