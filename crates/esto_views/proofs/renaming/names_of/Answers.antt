use Rattle.std.proofs.Common.{◌++◌, ◌∷◌, [], map, ap, ◌∙◌}
use Rattle.std.proofs.lemmas.List.{take_all}
use Rattle.esto_semantics.proofs.SubstitutionLemmas.{map_more}
use Rattle.esto_views.specs.Renamings.{name_of}
use Rattle.esto_views.proofs.renaming.names_of.Goals as goal

pub terms-init : goal.terms-init
terms-init c = c.new-found.ensures

pub terms-preserved : goal.terms-preserved
terms-preserved c =
    map_more (name_of c.args.names.now) c.args.terms.now c.terms.term-index c.term-item.result c.terms.found c.push.new.self c.terms-test.true
    c.term-item.is (c.in_ok-push.ensures.ok ∙ ap (λ it. c.terms.found ++ it ∷ []) c.in_ok-name.ensures) c.terms.invariant

pub returns : goal.returns
returns c = c.terms.invariant ∙ ap (map (name_of c.args.names.now)) (take_all c.terms.term-index c.args.terms.now c.terms-test.false)
