use Rattle.std.proofs.Common.{subst}
use Rattle.std.proofs.lemmas.Result.{on_ok_weaker}
use Rattle.esto_coded.specs.Whole.{IsLinked}
use Rattle.esto_coded.proofs.steps.push_column.Goals as goal

pub returns-clause-linked : goal.returns-clause-linked
returns-clause-linked c = on_ok_weaker c.push_copy.result
    (λ _. subst (λ them. IsLinked c.push_link.new.codes them c.args.term.now c.args.column c.args.links.now c.push_link.new.links) c.items.ensures
    c.in_ok-push_link.ensures.linked)
    c.push_copy.ensures

pub returns-clause-bound : goal.returns-clause-bound
returns-clause-bound c = c.push_copy.ensures
