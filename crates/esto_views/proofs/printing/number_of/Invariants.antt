use Rattle.std.proofs.Common.{◌≡◌, ◌+◌, drop}
use Rattle.esto_views.specs.Names.{number_from}
use Rattle.esto_views.proofs.printing.number_of.Given as goal

abbrev pub invariant-variables : goal.invariant-variables
invariant-variables l = number_from 1 l.nameless l.variable ≡ number_from (l.place + 1) (drop l.place l.nameless) l.variable
