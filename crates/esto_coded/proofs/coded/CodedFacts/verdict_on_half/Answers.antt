use Rattle.esto_coded.proofs.VerdictLemmas.{mirrored_met, mirrored_broken}
use Rattle.esto_coded.proofs.coded.CodedFacts.verdict_on_half.Goals as goal

pub returns-then-branch : goal.returns-then-branch
returns-then-branch c before stays second left right shared are =
    mirrored_met before c.args.self.now stays c.requires.texts c.args.body.now
    c.args.first.now left shared c.args.head.now are c.requires.constants c.args.rows.now.rows c.requires.rows
    c.in_ok-are_told.field-0 c.in_ok-are_told.ensures c.if-branch.true second right

pub returns : goal.returns
returns c before stays second left right shared are =
    mirrored_broken before c.args.self.now stays c.requires.texts c.args.body.now
    c.args.first.now left shared c.args.head.now are c.requires.constants c.args.rows.now.rows c.requires.rows
    c.in_ok-are_told.field-0 c.in_ok-are_told.ensures c.if-branch.false c.mirrored_part.result c.mirrored_part.ensures second right
