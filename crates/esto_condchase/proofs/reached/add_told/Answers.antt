use Rattle.std.proofs.Common.{◌↔◌, ◌⊎◌, Bool, List, subst}
use Rattle.std.proofs.lemmas.Result.{on_ok_weaker}
use Rattle.esto_term.specs.declared.term.Term.{Term}
use Rattle.esto_condchase.specs.Products.{IsReachedBy, Reach}
use Rattle.esto_condchase.proofs.KnownLemmas.{reach_none}
use Rattle.esto_condchase.proofs.reached.add_told.Goals as goal

pub returns-then-is_empty-clause-counted : goal.returns-then-is_empty-clause-counted
returns-then-is_empty-clause-counted c = c.requires.counted

pub returns-then-is_empty-clause-reach : goal.returns-then-is_empty-clause-reach
returns-then-is_empty-clause-reach c =
    reach_none c.args.ones.now.items _ c.args.sets.now.sets c.args.others.now.sets (c.is_empty.ensures.0 c.if-is_empty.true)

pub returns-clause-counted : goal.returns-clause-counted
returns-clause-counted c = c.add.ensures.counted

pub returns-clause-reach : goal.returns-clause-reach
returns-clause-reach c = on_ok_weaker c.add.result
    (subst (λ it. (own : List Term) (set : List Bool) → Reach c.add.new.ones.items own set
    ↔ (Reach c.args.ones.now.items own set ⊎ IsReachedBy it c.args.sets.now.sets c.args.others.now.sets own set)) c.in_ok-told.ensures) c.add.ensures.reach
