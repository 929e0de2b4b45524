use Rattle.std.proofs.lemmas.Result.{on_ok_weaker}
use Rattle.esto_derive.proofs.PutLemmas.{step_put}
use Rattle.esto_derive.proofs.printing.put_step.Goals as goal

pub returns-clause-text : goal.returns-clause-text
returns-clause-text c =
    on_ok_weaker c.put_lists.result
    (λ (linked, adds, is). (
      linked,
      adds,
      step_put c.args.number c.args.place _ _ _ _ _ _ _ c.in_ok-append.ensures.ok c.in_ok-put_word.ensures
          c.in_ok-put_word-2.ensures is,
    ))
    c.put_lists.ensures
