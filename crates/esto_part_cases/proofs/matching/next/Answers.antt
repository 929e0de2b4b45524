use Rattle.esto_part_cases.proofs.matching.next.Goals as goal

pub first_match-requires : goal.first_match-requires
first_match-requires c = (c.queries_are_sound.ensures c.args.query.now).query.flat_body

pub next_match-requires : goal.next_match-requires
next_match-requires c = (c.queries_are_sound.ensures c.args.query.now).query.flat_body
