use Rattle.esto_rewriting.proofs.TextLemmas.{ends, goes}
use Rattle.esto_rewriting.proofs.list.union_text.Goals as goal

pub members-preserved : goal.members-preserved
members-preserved c =
    goes c.args.catalogue.now c.args.members.now c.members.place c.index-members-place.result c.members.text c.put_member.new.text c.members-test.true
    c.index-members-place.is c.in_ok-put_member.ensures c.members.invariant

pub returns : goal.returns
returns c = ends c.args.catalogue.now c.args.members.now c.members.place c.members.text c.members-test.false c.members.invariant
