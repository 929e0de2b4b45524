use Rattle.std.proofs.Common.{[], ◌∷◌, ◌++◌, get_or, map, sym, ap, ◌∙◌}
use Rattle.std.proofs.lemmas.List.{map_more, take_all}
use Rattle.esto_steps.specs.declared.steps.Link.{Link}
use Rattle.esto_steps.specs.declared.steps.Source.TheVariants.{Code, Cell}
use Rattle.esto_steps.proofs.links.columns_of.Goals as goal

pub links-preserved : goal.links-preserved
links-preserved c =
    let items = c.items-link-items.result.now in
    c.in_ok-push.ensures.ok
    ∙ ap (λ them. them ++ Cell (get_or items c.links.link-index (record { column = 0; source = Code 0 })).column ∷ []) c.links.invariant
    ∙ sym (map_more (λ (link : Link). Cell link.column) items c.links.link-index (record { column = 0; source = Code 0 }) c.links-test.true)

pub returns : goal.returns
returns c = c.links.invariant ∙ ap (map (λ (link : Link). Cell link.column))
    (take_all c.links.link-index c.items-link-items.result.now c.links-test.false ∙ c.items-link-items.ensures)
