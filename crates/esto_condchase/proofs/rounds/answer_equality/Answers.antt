use Rattle.std.proofs.Common.{◌≡◌, ◌++◌, sym, subst, ◌∙◌}
use Rattle.std.proofs.lemmas.Result.{on_ok_weaker}
use Rattle.esto_semantics.specs.Rules.{equality}
use Rattle.esto_semantics.specs.Facts.{terms_of}
use Rattle.esto_constraint.specs.Constraints.{rules_of}
use Rattle.esto_chase_laws.specs.declared.entry.Claim.TheVariants.{Same}
use Rattle.esto_known.specs.Added.{IsThere}
use Rattle.esto_condchase.proofs.RoundLemmas.{side_is, asked_asks, asked_there}
use Rattle.esto_condchase.proofs.rounds.answer_equality.Goals as goal

pub returns-clause-grows : goal.returns-clause-grows
returns-clause-grows c =
    let left = side_is _ c.args.from.now (terms_of c.args.rule.now.body) _ c.args.way.now.to c.args.rule.now.left _ c.items.ensures
    c.requires.from_is c.items-2.ensures c.taken_term-left.ensures in
    let right = side_is _ c.args.from.now (terms_of c.args.rule.now.body) _ c.args.way.now.to c.args.rule.now.right _ c.items-3.ensures
    c.requires.from_is c.items-4.ensures c.taken_term-right.ensures in
    on_ok_weaker c.ask.result (λ noted. asked_asks c.args.entries.now c.args.number
    (equality c.args.rule.now.body c.args.rule.now.left c.args.rule.now.right) c.args.way.now c.requires.found
    (rules_of c.args.rules.now) c.requires.at c.args.more.now
    c.in_ok-claim.claim (c.in_ok-claim.ensures ∙ (λ i. Same (left i) (right i))) c.ask.new.more noted) c.ask.ensures

pub returns-clause-answered : goal.returns-clause-answered
returns-clause-answered c =
    let left = side_is _ c.args.from.now (terms_of c.args.rule.now.body) _ c.args.way.now.to c.args.rule.now.left _ c.items.ensures
    c.requires.from_is c.items-2.ensures c.taken_term-left.ensures in
    let right = side_is _ c.args.from.now (terms_of c.args.rule.now.body) _ c.args.way.now.to c.args.rule.now.right _ c.items-3.ensures
    c.requires.from_is c.items-4.ensures c.taken_term-right.ensures in
    on_ok_weaker c.ask.result (λ noted claim asked.
    let is : c.in_ok-claim.claim ≡ claim = c.in_ok-claim.ensures ∙ (λ i. Same (left i) (right i)) ∙ sym asked in
    subst (λ it. IsThere (c.args.entries.now ++ c.ask.new.more) it c.args.way.now.product) is
    (asked_there c.args.entries.now c.args.number (equality c.args.rule.now.body c.args.rule.now.left c.args.rule.now.right) c.args.way.now c.requires.found
    (rules_of c.args.rules.now) c.requires.at c.args.more.now
    c.in_ok-claim.claim (c.in_ok-claim.ensures ∙ (λ i. Same (left i) (right i))) c.ask.new.more noted)) c.ask.ensures
