use Rattle.std.proofs.Common.{◌≡◌, map}
use Rattle.esto_semantics.specs.Facts.{image}
use Rattle.esto_semantics.specs.Valuations.{map_of}
use Rattle.esto_chase_laws.specs.Making.{frontier}
use Rattle.esto_chase.specs.Made.{made_by}
use Rattle.std.proofs.Common.{ap, ◌∙◌}
use Rattle.std.proofs.lemmas.Result.{IfOk-weaker}
use Rattle.esto_chase.proofs.MakingLemmas.{made-made_facts}
use Rattle.esto_chase.proofs.making.made_facts.Goals as goal

-- src/making.rt:148:1
pub returns : goal.returns
returns c = IfOk-weaker c.make_all.result _ _ (λ facts is.
    is
    ∙ (λ i. map (image (made_by c.args.number (values_are i) c.args.valuation.now)) (c.items-4.ensures i))
    ∙ made-made_facts c.args.number c.args.rule.now.body c.args.rule.now.head c.args.valuation.now
    (c.rules_are_sound.ensures.tuples c.args.rule.now).rule.flat_head c.requires) c.make_all.ensures
  where
    values_are : c.in_ok-values.values ≡ map (map_of c.args.valuation.now) (frontier c.args.rule.now.body c.args.rule.now.head)
    values_are =
        c.in_ok-values.ensures ∙ ap (map (map_of c.args.valuation.now)) (c.items-3.ensures ∙ c.in_ok-shared.ensures
        ∙ (λ i. frontier (c.items.ensures i) (c.items-2.ensures i)))
