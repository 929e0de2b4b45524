use Rattle.std.proofs.Common.{◌≡◌, true, sym}
use Rattle.esto_query.specs.Trails.{with_trail}
use Rattle.esto_table.specs.Marks.{is_among}
use Rattle.esto_query.proofs.IndexLemmas.{candidates-term}
use Rattle.esto_query.proofs.index.fewer_by.Goals as goal

pub number_of-number-requires : goal.number_of-number-requires
number_of-number-requires c = rw c.deref.ensures.value c.requires.index.names

pub returns : goal.returns
returns c =
    let among : is_among c.args.index.now.columns c.args.atom.now.relation c.args.column ≡ true = sym c.if-not-has.ensures in
    candidates-term c.args.facts.now c.args.index.now c.args.atom.now (with_trail c.args.start.now c.args.trail.now) c.requires.index
    c.args.column c.number_of-number.result c.item.result.now c.in-Some.bound.now c.at-found.result.now c.item.ensures among c.in-Some.ensures
    (rw c.deref.ensures.value at c.number_of-number.ensures) (rw c.key_of.ensures at c.at-found.ensures)
