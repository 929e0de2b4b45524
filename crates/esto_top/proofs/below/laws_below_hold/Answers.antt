use Rattle.esto_top.proofs.below.laws_below_hold.Goals as goal

pub returns : goal.returns
returns c = record {
  keeps = c.kept_laws_hold.ensures;
  chase = c.chase_laws_hold.ensures;
  lists = c.list_laws_hold.ensures;
  rows = c.files_are_total.ensures.stored;
  readable = c.readable_fragments_are_opened.ensures.opened;
}
