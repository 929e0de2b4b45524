use Rattle.std.proofs.Common.{◌++◌, Contains, length, refl, sym, ap, subst, ◌∙◌}
use Rattle.std.proofs.lemmas.Result.{on_ok_weaker}
use Rattle.esto_term.specs.Sets.{Within}
use Rattle.esto_condchase.specs.Ways.{meets}
use Rattle.esto_condchase.specs.declared.passing.Support.{Support}
use Rattle.esto_condchase.proofs.MeetLemmas.{on_ok_both}
use Rattle.esto_condchase.proofs.StepLemmas.{kept_come, kept_there, counted_come}
use Rattle.esto_condchase.proofs.steps.pass.Goals as goal

pub through_row-requires-clause-count : goal.through_row-requires-clause-count
through_row-requires-clause-count c = ap (λ (it : Support). length it.product) c.in_ok-start.ensures ∙ c.requires.count

pub keep_all-requires-clause-supports : goal.keep_all-requires-clause-supports
keep_all-requires-clause-supports c support inside =
    (c.in_ok-supports.ensures.come support (subst (λ it. Contains it support) c.items.ensures inside)).count
    ∙ ap (λ (it : Support). length it.product) c.in_ok-start.ensures ∙ c.requires.count

pub returns-clause-grown : goal.returns-clause-grown
returns-clause-grown c = on_ok_weaker c.keep_all.result
    (kept_come c.args.step.now.known.now c.args.step.now.from.now c.args.step.now.terms.now c.args.step.now.to.now c.args.step.now.owns.now c.args.before.now
    c.args.place c.requires.product.0 c.args.product.now c.in_ok-start.start (length c.args.step.now.owns.now) c.in_ok-supports.supports c.items.result.now
    c.args.kept.now c.keep_all.new.kept c.requires.to c.requires.rows c.requires.product.1 c.requires.product.2 c.in_ok-start.ensures refl c.items.ensures
    c.in_ok-supports.ensures.come) c.keep_all.ensures.grown

pub returns-clause-there : goal.returns-clause-there
returns-clause-there c = on_ok_both c.keep_all.result
    (λ grown there set within passes. kept_there c.args.step.now.known.now (meets c.args.step.now.from.now c.args.step.now.terms.now c.args.step.now.to.now
    c.args.step.now.owns.now) c.args.step.now.terms.now c.args.step.now.owns.now (c.args.step.now.to.now ++ c.args.step.now.owns.now) c.args.at c.args.floor
    (length c.args.step.now.owns.now) c.args.step.now.sides c.args.step.now.places.now c.args.kept.now c.keep_all.new.kept c.in_ok-start.start
    c.in_ok-supports.supports c.items.result.now c.items.ensures grown.kept c.in_ok-supports.ensures there set
    (subst (λ it. Within it set) (sym (ap (λ (it : Support). it.product) c.in_ok-start.ensures)) within) passes) c.keep_all.ensures.grown
    c.keep_all.ensures.there

pub returns-clause-counted : goal.returns-clause-counted
returns-clause-counted c = on_ok_weaker c.keep_all.result
    (λ grown. counted_come c.args.count c.args.place c.args.step.now.owns.now c.args.before.now c.items.result.now c.in_ok-supports.supports c.args.kept.now
    c.keep_all.new.kept c.items.ensures grown (λ support inside. (c.in_ok-supports.ensures.come support inside).count
    ∙ ap (λ (it : Support). length it.product) c.in_ok-start.ensures ∙ c.requires.count) c.requires.counted) c.keep_all.ensures.grown
