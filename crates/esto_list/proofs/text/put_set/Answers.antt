use Rattle.esto_list.proofs.text.put_set.Goals as goal

pub returns : goal.returns
returns c = rw (c.items.ensures, c.in_ok-numbers.ensures) at c.put_numbers.ensures
