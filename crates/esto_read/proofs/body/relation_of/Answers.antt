use Rattle.esto_text.specs.View.{item_of}
use Rattle.esto_read.proofs.WordLemmas.{bases, found_inside}
use Rattle.esto_read.proofs.body.relation_of.Goals as goal

pub part_of-requires : goal.part_of-requires
part_of-requires c = bases c.args.schema.now c.args.words.now c.len-few.ensures.schema c.requires.relations

pub returns-in-Atom-clause-named : goal.returns-in-Atom-clause-named
returns-in-Atom-clause-named c = rw c.in-Atom.is (rw c.bytes_of.ensures at c.base_of.ensures)

pub returns-in-Part-clause-named : goal.returns-in-Part-clause-named
returns-in-Part-clause-named c = rw c.in-Part.is (rw (c.bytes_of-in-Part.ensures, c.bytes_of-in-Part-2.ensures) at c.part_of.ensures)

pub returns-in-Part-clause-inside : goal.returns-in-Part-clause-inside
returns-in-Part-clause-inside c =
    found_inside c.args.schema.now c.args.words.now c.requires.relations c.args.bytes.now (item_of c.args.item.now) c.part_of.result
    (rw c.in-Part.is (rw (c.bytes_of-in-Part.ensures, c.bytes_of-in-Part-2.ensures) at c.part_of.ensures))

pub returns-in-Pattern-clause-named : goal.returns-in-Pattern-clause-named
returns-in-Pattern-clause-named c = rw c.in-Pattern.is (rw c.bytes_of-in-Pattern.ensures at c.base_of-in-Pattern.ensures)

pub returns-in-Pattern-clause-inside : goal.returns-in-Pattern-clause-inside
returns-in-Pattern-clause-inside c =
    found_inside c.args.schema.now c.args.words.now c.requires.relations c.args.bytes.now (item_of c.args.item.now) c.base_of-in-Pattern.result
    (rw c.in-Pattern.is (rw c.bytes_of-in-Pattern.ensures at c.base_of-in-Pattern.ensures))
