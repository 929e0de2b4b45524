use Rattle.std.proofs.Common.{◌∙◌, sym}
use Rattle.std.proofs.lemmas.Result.{on_ok_weaker}
use Rattle.esto_bits.proofs.JoinLemmas.{left_in, left_out}
use Rattle.esto_bits.proofs.products.Products.add_uncovered_at.Goals as goal

pub covers_one-requires-clause-same_count : goal.covers_one-requires-clause-same_count
covers_one-requires-clause-same_count c = c.requires.sets ∙ sym c.requires.others

pub returns-then-covers_one-clause-covers : goal.returns-then-covers_one-clause-covers
returns-then-covers_one-clause-covers c =
    left_out c.args.self.now.sets c.args.sets.now.sets c.args.others.now.sets c.args.at c.requires.at c.covers_one.result c.covers_one.ensures
    c.if-covers_one.true

pub returns-clause-covers : goal.returns-clause-covers
returns-clause-covers c =
    on_ok_weaker c.add_at.result
    (left_in c.args.self.now.sets c.args.sets.now.sets c.args.others.now.sets c.args.at c.requires.at c.add_at.new.self.sets) c.add_at.ensures.ok
