use Rattle.esto_rewriting.proofs.members.member_of.Goals as goal

pub listing_in-requires-clause-planned : goal.listing_in-requires-clause-planned
listing_in-requires-clause-planned c = (c.args.query.now, c.requires.query, rw c.in-Left.is at c.in_ok-plan.ensures.run)
