use Rattle.esto_top.proofs.data_laws.data_commands_hold.Goals as goal

pub returns : goal.returns
returns c = record {
  catalogues = c.openings_are_one.ensures.catalogues;
  unions = c.openings_are_one.ensures.unions;
  below = c.data_laws_hold.ensures;
}
