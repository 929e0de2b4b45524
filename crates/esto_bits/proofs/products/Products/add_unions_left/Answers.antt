use Rattle.std.proofs.lemmas.Result.{on_ok_weaker}
use Rattle.esto_bits.proofs.JoinLemmas.{alike_itself, rest_enough, unions_enough}
use Rattle.esto_bits.proofs.products.Products.add_unions_left.Goals as goal

pub returns-clause-covers : goal.returns-clause-covers
returns-clause-covers c =
    let sets = c.args.sets.now.sets in
    let others = c.args.others.now.sets in
    let before = c.args.self.now.sets in
    let rest = c.in_ok-rest.rest.sets in
    on_ok_weaker c.add_unions.result (λ now. rest_enough sets others before sets rest c.add_unions.new.self.sets (alike_itself before sets)
    c.in_ok-rest.ensures.covers (unions_enough before sets rest c.add_unions.new.self.sets now)) c.add_unions.ensures.ok
