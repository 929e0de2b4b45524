use Rattle.esto_part_cases.specs.Refusing.{AreOpen}
use Rattle.esto_part_cases.proofs.refusing.fragments.Given as goal

abbrev pub invariant-fragments : goal.invariant-fragments
invariant-fragments l = AreOpen l.number l.fragments
