use Rattle.std.proofs.Common.{arith}
use Rattle.esto_top.proofs.SizeLemmas.{sized}
use Rattle.esto_top.proofs.command.made_size.Goals as goal

pub value_of-requires-clause-digits : goal.value_of-requires-clause-digits
value_of-requires-clause-digits c = (sized c.args.word.now c.requires).0

pub value_of-requires-clause-few : goal.value_of-requires-clause-few
value_of-requires-clause-few c = (sized c.args.word.now c.requires).1

pub returns-clause-range : goal.returns-clause-range
returns-clause-range c =
    let size = sized c.args.word.now c.requires in
    (omega (arith, c.value_of.ensures, size.2), omega (arith, c.value_of.ensures, size.3))
