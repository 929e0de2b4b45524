use Rattle.esto_part_cases.specs.Refusing.{AskEach}
use Rattle.esto_part_cases.proofs.refusing.gets.Given as goal

abbrev pub invariant-fragments : goal.invariant-fragments
invariant-fragments l = AskEach l.fragment l.gets
