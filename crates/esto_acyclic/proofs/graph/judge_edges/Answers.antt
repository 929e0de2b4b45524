use Rattle.esto_acyclic.proofs.graph.judge_edges.Goals as goal

pub returns-in-Some : goal.returns-in-Some
returns-in-Some c = record { judged = rw c.in-Some.is at c.in_ok-found.ensures }
