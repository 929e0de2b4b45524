use Rattle.std.proofs.Common.{◌++◌, ◌∙◌}
use Rattle.esto_condchase.proofs.FoundLemmas.{met_terms, tells_terms}
use Rattle.esto_condchase.proofs.ways.places_for.Goals as goal

pub returns-clause-met : goal.returns-clause-met
returns-clause-met c = met_terms (c.args.from.now ++ c.args.atom.now.terms) _ c.args.sides.now _
    (c.items-4.ensures ∙ c.in_ok-terms.ensures ∙ (λ i. c.items.ensures i ++ c.items-2.ensures i)) c.places_met.ensures

pub returns-clause-tells : goal.returns-clause-tells
returns-clause-tells c = tells_terms (c.args.from.now ++ c.args.atom.now.terms) c.items-3.result.now c.args.live.now _
    (c.items-3.ensures ∙ c.in_ok-terms.ensures ∙ (λ i. c.items.ensures i ++ c.items-2.ensures i)) c.in_ok-places.ensures
