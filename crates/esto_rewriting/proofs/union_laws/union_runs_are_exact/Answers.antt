use Rattle.esto_rewriting.proofs.RunExactLemmas.{union_runs_exactly}
use Rattle.esto_rewriting.proofs.union_laws.union_runs_are_exact.Goals as goal

pub returns : goal.returns
returns c =
    union_runs_exactly (record {
      answer = c.runs_answer_unions.ensures.answers;
      rewriting = c.runs_answer_unions.ensures.rewriting;
      tell = c.members_tell_rewritings.ensures.satisfiable;
      empty = c.members_tell_rewritings.ensures.empty;
      members = c.members_are_one.ensures;
      choice = c.plans_and_lists_are_one.ensures.choice;
      opened = c.readable_fragments_are_opened.ensures.opened;
      readable = c.readable_fragments_are_opened.ensures.readable;
    })
