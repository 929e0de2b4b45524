use Rattle.std.proofs.Common.{subst}
use Rattle.esto_query.specs.Making.{query_of}
use Rattle.esto_term.proofs.ListLemmas.{Contains-map_from, each_more, each_seen}
use Rattle.esto_views.specs.declared.fragments.FragmentDef.{FragmentDef}
use Rattle.esto_fill.specs.Nodes.{IsFreeView}
use Rattle.esto_fill.proofs.nodes.are_free.Goals as goal

pub fragments-preserved : goal.fragments-preserved
fragments-preserved c =
    each_more (λ (it : FragmentDef). IsFreeView c.args.columns.now (query_of it.view)) c.args.fragments.now c.fragments.fragment-index
    c.fragment-item.result c.fragments-test.true c.fragment-item.is (c.is_free_view.ensures c.if-not-is_free_view.false) c.fragments.invariant

pub returns : goal.returns
returns c _ view inside =
    let from = Contains-map_from (λ (its : FragmentDef). query_of its.view) c.args.fragments.now view inside in
    subst (IsFreeView c.args.columns.now) from.2
    (each_seen (λ (it : FragmentDef). IsFreeView c.args.columns.now (query_of it.view)) c.args.fragments.now c.fragments.fragment-index
    c.fragments-test.false c.fragments.invariant from.0 from.1)
