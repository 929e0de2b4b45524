use Rattle.std.proofs.Common.{drop, length}
use Rattle.esto_rewriting.proofs.NamingLemmas.{IsNamedSoFar}
use Rattle.esto_rewriting.proofs.verifying.named_set.Given as goal

abbrev pub invariant-numbers : goal.invariant-numbers
invariant-numbers l = IsNamedSoFar (length l.plan.atoms) l.numbers (drop l.number-index l.numbers) l.set
