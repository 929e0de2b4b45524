use Rattle.std.proofs.Common.{◌≡◌, ◌<◌, drop}
use Rattle.esto_top.specs.Grammar.{value_after, value_of}
use Rattle.esto_top.proofs.ValueLemmas.{tens}
use Rattle.esto_top.proofs.command.value_of.Given as goal

abbrev pub invariant-digits : goal.invariant-digits
invariant-digits l = (value_after l.value (drop l.digit-index l.digits) ≡ value_of l.digits) × (l.value < tens l.digit-index)
