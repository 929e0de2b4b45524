use Rattle.esto_top.proofs.laws.openings_hold.Goals as goal

pub returns : goal.returns
returns c = record {
  catalogues = c.openings_are_one.ensures.catalogues;
  unions = c.openings_are_one.ensures.unions;
  alone = c.opened_unions_are_queries.ensures.one;
  fragment = c.fragment_files_are_one.ensures.fragment;
  fragments = c.fragment_files_are_one.ensures.fragments;
  rows = c.fragment_files_are_one.ensures.rows;
}
