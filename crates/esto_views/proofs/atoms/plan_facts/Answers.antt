use Rattle.std.proofs.Common.{◌++◌, ◌∷◌, [], map, ap, ◌∙◌}
use Rattle.std.proofs.lemmas.List.{take_all}
use Rattle.esto_views.specs.Plans.{fact_of}
use Rattle.esto_semantics.proofs.SubstitutionLemmas.{map_more}
use Rattle.esto_views.proofs.atoms.plan_facts.Goals as goal

pub atoms-init : goal.atoms-init
atoms-init c = c.new-facts.ensures

pub atoms-preserved : goal.atoms-preserved
atoms-preserved c =
    map_more fact_of c.args.atoms.now c.atoms.atom-index c.atom-item.result c.atoms.facts c.push.new.self
    (rw c.items-atom-items.ensures at c.atoms-test.true) (rw c.items-atom-items.ensures at c.atom-item.is)
    (c.in_ok-push.ensures.ok ∙ ap (λ it. c.atoms.facts ++ record { relation = c.atom-item.result.fragment; terms = it } ∷ []) c.in_ok-terms.ensures)
    c.atoms.invariant

pub returns : goal.returns
returns c = c.atoms.invariant ∙ ap (map fact_of) (take_all c.atoms.atom-index c.args.atoms.now (rw c.items-atom-items.ensures at c.atoms-test.false))
