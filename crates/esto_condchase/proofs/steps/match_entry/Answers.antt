use Rattle.std.proofs.lemmas.Result.{on_ok_weaker}
use Rattle.esto_condchase.proofs.StepLemmas.{entry_grown, entry_goes}
use Rattle.esto_condchase.proofs.steps.match_entry.Goals as goal

pub returns-in-Some-clause-grown : goal.returns-in-Some-clause-grown
returns-in-Some-clause-grown c = on_ok_weaker c.pass_from.result (entry_grown c.args.level.now.known.now c.args.level.now.from.now c.items.result.now
    c.items-in-Some-2.result.now c.args.level.now.atom.now _ c.args.before.now c.args.place _ c.args.kept.now c.pass_from.new.kept c.items.ensures
    c.items-in-Some-2.ensures c.in-Some.ensures.0 c.in-Some.ensures.1 c.in-Some.ensures.2) c.pass_from.ensures.grown

pub returns-in-Some-clause-goes : goal.returns-in-Some-clause-goes
returns-in-Some-clause-goes c = on_ok_weaker c.pass_from.result (entry_goes c.args.level.now.known.now c.args.level.now.from.now c.items.result.now
    c.items-in-Some.result.now
    c.items-in-Some-2.result.now c.args.level.now.atom.now _ c.args.level.now.sides c.args.level.now.places.now c.args.before.now c.args.place c.args.floor _
    c.pass_from.new.kept c.items.ensures c.items-in-Some.ensures c.items-in-Some-2.ensures c.in-Some.ensures.0 c.in-Some.ensures.1) c.pass_from.ensures.there

pub returns-in-Some-clause-counted : goal.returns-in-Some-clause-counted
returns-in-Some-clause-counted c = c.pass_from.ensures.counted
