use Rattle.std.proofs.lemmas.Result.{IfOk-weaker}
use Rattle.esto_known.proofs.TouchLemmas.{linked_by, linked_never}
use Rattle.esto_known.proofs.touching.linked.Goals as goal

pub returns-in_default-clause-covers : goal.returns-in_default-clause-covers
returns-in_default-clause-covers c =
    linked_never c.args.groups.now c.args.sets.now.sets c.new.result.sets c.args.term.now c.args.other.now c.new.ensures.empty c.in_default.ensures

pub minimal_unions-requires : goal.minimal_unions-requires
minimal_unions-requires c = c.requires.counted c.in-Some.group.now c.in-Some.ensures.0

pub returns-clause-covers : goal.returns-clause-covers
returns-clause-covers c = IfOk-weaker c.minimal_unions.result _ _ (λ kept covers.
    linked_by c.args.sets.now.count c.args.groups.now c.requires c.args.sets.now.sets kept.sets c.args.term.now c.args.other.now
    c.in-Some.group.now c.in-Some.ensures.0 c.in-Some.ensures.1 covers) c.minimal_unions.ensures.covers
