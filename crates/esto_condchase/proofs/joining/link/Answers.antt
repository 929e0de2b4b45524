use Rattle.std.proofs.Common.{◌++◌, ◌∷◌, [], inl, inr, refl, ◌∙◌}
use Rattle.std.proofs.lemmas.Result.{on_ok_weaker}
use Rattle.esto_condchase.proofs.JoinLemmas.{tell_same, tell_more, covers_itself}
use Rattle.esto_condchase.proofs.joining.link.Goals as goal

pub returns-then-not-branch-clause-covers : goal.returns-then-not-branch-clause-covers
returns-then-not-branch-clause-covers c = covers_itself c.args.sets.now.sets c.add.new.self.sets c.args.product.now _ refl c.in_ok-add.ensures.covers

pub returns-then-not-branch-clause-tell : goal.returns-then-not-branch-clause-tell
returns-then-not-branch-clause-tell c = tell_same _ c.args.sets.now.sets c.add.new.self.sets c.args.product.now c.args.from.now c.args.to.now
    c.in_ok-add.ensures.covers (c.in_ok-add.ensures.answer.0 c.if-not-branch.true) c.requires.tell

pub returns-then-not-branch-clause-asks : goal.returns-then-not-branch-clause-asks
returns-then-not-branch-clause-asks c = inl refl

pub returns-clause-covers : goal.returns-clause-covers
returns-clause-covers c = on_ok_weaker c.push.result
    (λ is. covers_itself c.args.sets.now.sets c.add.new.self.sets c.args.product.now _ refl c.in_ok-add.ensures.covers) c.push.ensures.ok

pub returns-clause-tell : goal.returns-clause-tell
returns-clause-tell c = on_ok_weaker c.push.result
    (λ is. tell_more c.args.entries.now c.args.more.now _ c.in_ok-entry.entry c.args.sets.now.sets c.add.new.self.sets c.args.product.now c.args.from.now
    c.args.to.now is c.in_ok-entry.ensures.claim c.in_ok-entry.ensures.product c.in_ok-add.ensures.covers c.requires.tell) c.push.ensures.ok

pub returns-clause-asks : goal.returns-clause-asks
returns-clause-asks c = on_ok_weaker c.push.result (λ is. inr (is ∙ (λ i. c.args.more.now ++ (record {
  claim = c.in_ok-entry.ensures.claim i;
  product = c.in_ok-entry.ensures.product i;
  reason = c.in_ok-entry.ensures.reason i;
}) ∷ []))) c.push.ensures.ok
