use Rattle.std.proofs.Common.{◌/◌, length, subst}
use Rattle.std.proofs.lemmas.Result.{IfOk-weaker}
use Rattle.esto_coded.specs.Mirrored.{IsMirrored}
use Rattle.esto_coded.proofs.MirrorLemmas.{front_flat, head_fixed, parts}
use Rattle.esto_coded.proofs.coded.CodedFacts.judge_halves.Goals as goal

pub are_mirrored-requires-clause-flat : goal.are_mirrored-requires-clause-flat
are_mirrored-requires-clause-flat c =
    front_flat c.split_at.result.0.now c.split_at.result.1.now c.args.body.now
    (parts c.args.body.now c.split_at.result.0.now c.split_at.result.1.now (length c.args.body.now / 2) c.split_at.ensures.front c.split_at.ensures.back)
    c.requires.flat_body

pub judge_mirrored-requires : goal.judge_mirrored-requires
judge_mirrored-requires c =
    head_fixed c.split_at.result.0.now c.split_at.result.1.now c.args.left.now c.args.right.now c.in_ok-shared.shared
    (subst (IsMirrored c.split_at.result.0.now c.split_at.result.1.now c.args.left.now c.args.right.now) c.items.ensures
    (c.in_ok-are_mirrored.ensures c.if-branch.true))

pub returns-then-branch-clause-judged : goal.returns-then-branch-clause-judged
returns-then-branch-clause-judged c =
    IfOk-weaker c.judge_mirrored.result _ _
    (λ verdict judged. judged c.split_at.result.1.now c.args.right.now
    (parts c.args.body.now c.split_at.result.0.now c.split_at.result.1.now (length c.args.body.now / 2) c.split_at.ensures.front c.split_at.ensures.back)
    (subst (IsMirrored c.split_at.result.0.now c.split_at.result.1.now c.args.left.now c.args.right.now) c.items.ensures
    (c.in_ok-are_mirrored.ensures c.if-branch.true)))
    c.judge_mirrored.ensures.judged
