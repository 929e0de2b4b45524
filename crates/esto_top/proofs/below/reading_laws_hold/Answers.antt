use Rattle.esto_top.proofs.below.reading_laws_hold.Goals as goal

pub returns : goal.returns
returns c = record {
  sound = c.catalogues_are_sound.ensures;
  catalogues = c.catalogues_are_total.ensures;
  queries = c.readings_are_total.ensures.query;
  unions = c.readings_are_total.ensures.union;
}
