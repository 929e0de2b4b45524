use Rattle.std.proofs.Common.{subst}
use Rattle.esto_views.specs.Fragments.{views_of}
use Rattle.esto_fill.specs.Nodes.{AreFree, CoverNodes}
use Rattle.esto_fill.proofs.NodeLemmas.{free_views}
use Rattle.esto_fill.proofs.views.audit_views.Goals as goal

pub returns-then-are_free : goal.returns-then-are_free
returns-then-are_free c =
    free_views c.args.loaded.now.facts c.in_ok-columns.columns
    (subst (λ those. CoverNodes those c.in_ok-columns.columns) c.items.ensures c.in_ok-columns.ensures)
    (views_of c.args.catalogue.now.fragments)
    (subst (λ those. AreFree c.in_ok-columns.columns (views_of those)) c.items-3.ensures
    (subst (λ those. AreFree those (views_of c.items-3.result.now)) c.items-2.ensures (c.are_free.ensures c.if-are_free.true)))
