use Rattle.std.proofs.lemmas.Result.{IfOk-weaker}
use Rattle.esto_condchase.proofs.JoinLemmas.{group_count, group_tells}
use Rattle.esto_condchase.proofs.joining.known_sets.Goals as goal

pub returns-in-Some-clause-count : goal.returns-in-Some-clause-count
returns-in-Some-clause-count c = IfOk-weaker c.copy.result _ _ (λ it is. λ entries are counts. group_count entries c.args.groups.now c.in-Some.group.now it
    c.args.count is are c.in-Some.ensures.0 counts) c.copy.ensures

pub returns-in-Some-clause-tell : goal.returns-in-Some-clause-tell
returns-in-Some-clause-tell c = IfOk-weaker c.copy.result _ _ (λ it is. λ entries are. group_tells entries c.args.groups.now c.in-Some.group.now it
    c.args.term.now c.args.other.now is are c.in-Some.ensures.0 c.in-Some.ensures.1) c.copy.ensures
