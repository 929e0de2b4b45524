use Rattle.std.proofs.Common.{◌≢◌, Contains, sym, subst, ◌∙◌}
use Rattle.std.proofs.lemmas.Option.{same_Some}
use Rattle.esto_steps.specs.declared.steps.Get.{Get}
use Rattle.esto_exec.specs.Slots.{side_of}
use Rattle.esto_exec.specs.declared.slots.Side.TheVariants.{Nothing}
use Rattle.esto_exec.proofs.reading.reading_of.Goals as goal

pub reading_by-requires-clause-named : goal.reading_by-requires-clause-named
reading_by-requires-clause-named g c = λ get link at inside.
    subst (λ arities. side_of arities link.source ≢ Nothing) c.first_of.ensures
    (c.each_names.ensures c.if-not-each_names.false link
    (subst (λ (it : Get). Contains it.inputs link) (same_Some get c.item.result.now (sym at ∙ c.item.ensures)) inside))
