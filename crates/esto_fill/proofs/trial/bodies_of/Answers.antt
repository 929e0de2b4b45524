use Rattle.std.proofs.Common.{[], ◌∷◌, ◌++◌, map, ap, ◌∙◌}
use Rattle.esto_constraint.proofs.EncodingLemmas.{made_all, made_more}
use Rattle.esto_query.specs.Making.{query_of}
use Rattle.esto_views.specs.declared.fragments.FragmentDef.{FragmentDef}
use Rattle.esto_fill.proofs.trial.bodies_of.Goals as goal

pub fragments-preserved : goal.fragments-preserved
fragments-preserved c =
    made_more (λ (fragment : FragmentDef). (query_of fragment.view).body) c.args.fragments.now c.fragments.fragment-index c.fragments.bodies
    (map (λ (fragment : FragmentDef). (query_of fragment.view).body) c.args.fragments.now) c.fragments.invariant
    c.fragment-item.result c.fragments-test.true _
    (c.in_ok-add_body.ensures ∙ ap (λ it. c.fragments.bodies ++ it ∷ [])
    (ap (λ (fragment : FragmentDef). (query_of fragment.view).body) c.fragment-item.is))

pub returns : goal.returns
returns c =
    made_all (λ (fragment : FragmentDef). (query_of fragment.view).body) c.args.fragments.now c.fragments.fragment-index c.fragments.bodies
    (map (λ (fragment : FragmentDef). (query_of fragment.view).body) c.args.fragments.now) c.fragments.invariant c.fragments-test.false
