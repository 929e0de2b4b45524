use Rattle.esto_top.proofs.below.chase_laws_hold.Goals as goal

pub returns : goal.returns
returns c = record {
  rise = c.ranks_rise.ensures.rise;
  small = c.ranks_rise.ensures.small;
  body = c.queries_have_starts.ensures.body;
  starts = c.queries_have_starts.ensures.start;
  ends = c.runs_reach_an_end.ensures;
  heads = c.heads_go_along.ensures.heads;
  universal = c.states_are_universal.ensures.start;
  nothing = c.clashes_receive_nothing.ensures;
}
