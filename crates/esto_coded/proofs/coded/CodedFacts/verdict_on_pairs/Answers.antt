use Rattle.esto_coded.proofs.VerdictLemmas.{sides_met, sides_broken}
use Rattle.esto_coded.proofs.coded.CodedFacts.verdict_on_pairs.Goals as goal

pub returns-then-agree : goal.returns-then-agree
returns-then-agree c before stays left right are =
    sides_met before c.args.self.now stays c.requires.texts c.args.body.now left right c.args.sides.now
    c.requires.fixed are c.requires.constants c.args.rows.now.rows c.requires.rows c.agree.result c.agree.ensures c.if-agree.true

pub returns : goal.returns
returns c before stays left right are =
    sides_broken before c.args.self.now stays c.requires.texts c.args.body.now left right c.args.sides.now
    c.requires.fixed are c.requires.constants c.args.rows.now.rows c.requires.rows c.agree.result c.agree.ensures c.if-agree.false
    c.sides_part.result c.sides_part.ensures
