use Rattle.std.proofs.Common.{sym, ◌∙◌, true, false, ◌≡◌, arith}
use Rattle.esto_query.specs.Making.{query_of}
use Rattle.esto_views.proofs.InnerLemmas.{inner_takes, inner_skips, inner_all}
use Rattle.esto_views.proofs.inner.inner_variables.Goals.{then-is_inner+in_ok-push, else-is_inner}
use Rattle.esto_views.proofs.inner.inner_variables.Goals as goal

pub variables-preserved : goal.variables-preserved
variables-preserved c = elim c.if-is_inner.branch [
  | then-is_inner+in_ok-push w ↦ rw (w.variables-is, w.in_ok-push.ensures.ok)
      (inner_takes (query_of c.args.view.now) c.variables.variable c.variables.variables c.variables.invariant (c.is_inner.ensures.0 w.if-is_inner.true))
  | else-is_inner w ↦ rw w.variables-is (inner_skips (query_of c.args.view.now) c.variables.variable c.variables.variables c.variables.invariant
      (λ inner. let wrong : true ≡ false = sym (c.is_inner.ensures.1 inner) ∙ w.if-is_inner.false in cc))
]

pub returns : goal.returns
returns c =
    inner_all (query_of c.args.view.now) c.variables.variable c.variables.variables c.variables.invariant
    (λ number mentioned. let named = (c.queries_are_sound.ensures c.args.view.now).named number mentioned in omega arith)
