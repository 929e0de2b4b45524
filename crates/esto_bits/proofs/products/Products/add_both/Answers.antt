use Rattle.std.proofs.lemmas.Result.{on_ok_weaker}
use Rattle.esto_bits.proofs.JoinLemmas.{adds_all, adds_then, adds_turned}
use Rattle.esto_bits.proofs.products.Products.add_both.Goals as goal

pub returns-clause-covers : goal.returns-clause-covers
returns-clause-covers c =
    let sets = c.args.sets.now.sets in
    let others = c.args.others.now.sets in
    on_ok_weaker c.add_rest.result (adds_all sets others c.args.self.now.sets c.add_covered-2.new.self.sets c.add_rest.new.self.sets
    (adds_then sets others c.args.self.now.sets c.add_covered.new.self.sets c.add_covered-2.new.self.sets c.in_ok-add_covered.ensures.covers
    (adds_turned sets others c.add_covered.new.self.sets c.add_covered-2.new.self.sets c.in_ok-add_covered-2.ensures.covers)))
    c.add_rest.ensures.covers
