use Rattle.std.proofs.lemmas.Result.{on_ok_weaker}
use Rattle.esto_bits.proofs.JoinLemmas.{alike_itself, rest_enough}
use Rattle.esto_bits.proofs.products.Products.add_rest.Goals as goal

pub returns-clause-covers : goal.returns-clause-covers
returns-clause-covers c =
    on_ok_weaker c.add_unions_left.result
    (rest_enough c.args.sets.now.sets c.args.others.now.sets c.args.self.now.sets c.in_ok-ones.ones.sets c.args.others.now.sets
    c.add_unions_left.new.self.sets c.in_ok-ones.ensures.covers (alike_itself c.args.self.now.sets c.args.others.now.sets)) c.add_unions_left.ensures.covers
