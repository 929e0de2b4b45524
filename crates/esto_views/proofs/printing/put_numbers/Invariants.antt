use Rattle.std.proofs.Common.{◌≡◌, ◌+◌, ◌++◌, drop}
use Rattle.std.specs.Fmt.{decimal}
use Rattle.esto_views.specs.Printing.{comma_before, each_from}
use Rattle.esto_views.proofs.printing.put_numbers.Given as goal

abbrev pub invariant-numbers : goal.invariant-numbers
invariant-numbers l =
    l.text ++ each_from (λ place number. comma_before place ++ decimal (number + 1)) l.place (drop l.place l.numbers)
    ≡ l.initial.text ++ each_from (λ place number. comma_before place ++ decimal (number + 1)) 0 l.numbers
