use Rattle.esto_fill.proofs.lawful.is_it_or_apart.Goals as goal

pub returns : goal.returns
returns c = λ yes differ. c.are_apart.ensures yes
