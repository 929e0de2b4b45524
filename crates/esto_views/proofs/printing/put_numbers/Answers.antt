use Rattle.std.proofs.Common.{◌+◌, ◌++◌, get_or}
use Rattle.std.proofs.lemmas.List.{get_or_default}
use Rattle.std.specs.Fmt.{decimal}
use Rattle.esto_term.proofs.ListLemmas.{two_more}
use Rattle.esto_views.specs.Printing.{comma_before}
use Rattle.esto_views.proofs.PrintingLemmas.{each_turn, each_end}
use Rattle.esto_views.proofs.printing.put_numbers.Goals as goal

pub numbers-preserved : goal.numbers-preserved
numbers-preserved c =
    let number = get_or c.args.numbers.now c.numbers.place 0 in
    each_turn (λ place number. comma_before place ++ decimal (number + 1)) c.args.numbers.now c.numbers.place _ c.numbers.text c.numbers.invariant number
    c.put_number.new.text c.numbers-test.true (get_or_default c.args.numbers.now c.numbers.place 0 number c.numbers-test.true)
    (two_more c.numbers.text c.put_comma.new.text c.put_number.new.text (comma_before c.numbers.place) (decimal (number + 1)) c.in_ok-put_comma.ensures
    c.in_ok-put_number.ensures)

pub returns : goal.returns
returns c = each_end (λ place number. comma_before place ++ decimal (number + 1)) c.args.numbers.now c.numbers.place _ c.numbers.text c.numbers.invariant
    c.numbers-test.false
