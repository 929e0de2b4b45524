use Rattle.std.proofs.Common.{◌∙◌, sym}
use Rattle.std.proofs.lemmas.Result.{on_ok_weaker}
use Rattle.esto_bits.proofs.JoinLemmas.{united_there}
use Rattle.esto_bits.proofs.ProductLemmas.{length_there}
use Rattle.esto_bits.proofs.products.Products.add_union_at.Goals as goal

pub union_into-requires-clause-same_count : goal.union_into-requires-clause-same_count
union_into-requires-clause-same_count c =
    length_there c.args.sets.now.count c.args.sets.now.sets c.args.at c.in_ok-row.row c.products_are_antichains.ensures.over c.in_ok-row.ensures
    ∙ c.requires.sets ∙ sym c.requires.others

pub add-requires : goal.add-requires
add-requires c =
    c.union_into.ensures.count
    ∙ length_there c.args.sets.now.count c.args.sets.now.sets c.args.at c.in_ok-row.row c.products_are_antichains.ensures.over c.in_ok-row.ensures
    ∙ c.requires.sets

pub returns-clause-ok : goal.returns-clause-ok
returns-clause-ok c =
    on_ok_weaker c.add.result
    (united_there c.args.self.now.sets c.add.new.self.sets c.args.sets.now.sets c.args.at c.args.others.now.sets c.args.place c.in_ok-row.row
    c.union_into.new.set c.in_ok-row.ensures c.union_into.ensures.value) c.add.ensures.ok
