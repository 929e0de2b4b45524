use Rattle.std.proofs.Common.{◌++◌, ◌∷◌, [], map, ap, ◌∙◌}
use Rattle.std.proofs.lemmas.List.{take_all}
use Rattle.esto_semantics.proofs.SubstitutionLemmas.{map_more}
use Rattle.esto_views.specs.Renamings.{numbered}
use Rattle.esto_views.proofs.renaming.rename_row.Goals as goal

pub terms-init : goal.terms-init
terms-init c = c.new-renamed.ensures

pub terms-preserved : goal.terms-preserved
terms-preserved c =
    map_more (numbered 0 c.args.seen.now) c.args.row.now c.terms.term-index c.term-item.result c.terms.renamed c.push.new.self c.terms-test.true
    c.term-item.is (c.in_ok-push.ensures.ok ∙ ap (λ it. c.terms.renamed ++ it ∷ []) c.in_ok-other.ensures) c.terms.invariant

pub returns : goal.returns
returns c = c.terms.invariant ∙ ap (map (numbered 0 c.args.seen.now)) (take_all c.terms.term-index c.args.row.now c.terms-test.false)
