use Rattle.esto_top.proofs.RunsLemmas.{outcomes_are_runs}
use Rattle.esto_top.proofs.laws.runs_are_exact.Goals as goal

pub returns : goal.returns
returns c =
    outcomes_are_runs c.openings_hold.ensures c.listings_hold.ensures
    (record {
      answers = c.rewritings_answer_queries.ensures;
      named = c.chosen_atoms_are_named.ensures;
      opened = c.readable_fragments_are_opened.ensures.opened;
      readable = c.readable_fragments_are_opened.ensures.readable;
    })
