use Rattle.esto_query.proofs.left.ranked_of.Goals as goal

pub returns : goal.returns
returns c = c.wide_choice_of.ensures _
