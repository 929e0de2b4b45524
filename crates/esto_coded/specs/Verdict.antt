-- What verdicts on rules tell.
use Rattle.std.specs.Prelude.{List, Option, None}
use Rattle.esto_term.specs.declared.term.Term.{Term}
use Rattle.esto_semantics.specs.declared.fact.Fact.{Fact}
use Rattle.esto_coded.specs.declared.verdict.Verdict.{Verdict}
use Rattle.esto_coded.specs.declared.verdict.Verdict.TheVariants.{Met, Broken}

-- The verdict tells whether this holds: Met where it does, Broken where it does not.
abbrev pub Tells : Verdict → Type 0 → Type 0
Tells Met holds = holds
Tells (Broken part) holds = ¬ holds

-- The part that comes with a verdict, if one does.
abbrev pub given_part : Verdict → Option (List (Fact Term))
given_part Met = None
given_part (Broken part) = part
