use Rattle.std.proofs.Common.{[], ◌∷◌, ◌++◌, get_or, sym, subst, ap, ◌∙◌, Contains}
use Rattle.std.proofs.lemmas.List.{take_more, take_all}
use Rattle.std.proofs.lemmas.List.Elements.{Contains-get_or}
use Rattle.esto_steps.specs.declared.steps.Source.TheVariants.{Code}
use Rattle.esto_steps.proofs.NamedLemmas.{inputs_early, filters_early}
use Rattle.esto_steps.proofs.links.early_links.Goals as goal

pub inputs-preserved : goal.inputs-preserved
inputs-preserved c =
    let items = c.items-link-items.result.now in
    c.in_ok-push.ensures.ok
    ∙ ap (λ them. them ++ get_or items c.inputs.link-index (record { column = 0; source = Code 0 }) ∷ []) c.inputs.invariant
    ∙ sym (take_more items c.inputs.link-index (record { column = 0; source = Code 0 }) c.inputs-test.true)

pub filters-init : goal.filters-init
filters-init c = inputs_early c.args.get.now c.args.width c.inputs.links
    (λ link inside. subst (λ them. Contains them link)
    (c.inputs.invariant ∙ take_all c.inputs.link-index c.items-link-items.result.now c.inputs-test.false ∙ c.items-link-items.ensures) inside)

pub filters-preserved : goal.filters-preserved
filters-preserved c = let h = c.in_ok-push_early.ensures in
    filters_early c.args.get.now c.args.width c.filters.links c.push_early.new.links
    (get_or c.items-link-items-2.result.now c.filters.link-index (record { column = 0; source = Code 0 }))
    c.filters.invariant
    (subst (λ them. Contains them (get_or c.items-link-items-2.result.now c.filters.link-index (record { column = 0; source = Code 0 })))
    c.items-link-items-2.ensures
    (Contains-get_or c.items-link-items-2.result.now c.filters.link-index (record { column = 0; source = Code 0 }) c.filters-test.true))
    c.in_ok-push_early.ensures
