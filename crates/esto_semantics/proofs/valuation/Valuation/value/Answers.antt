use Rattle.std.proofs.Common.{sym, ◌∙◌}
use Rattle.esto_semantics.proofs.ValuationLemmas.{last_found, last_passed, last_none, last_read}
use Rattle.esto_semantics.proofs.valuation.Valuation.value.Goals as goal

pub returns-then-binding-variable : goal.returns-then-binding-variable
returns-then-binding-variable c =
    sym (last_found _ _ _ _ c.loop-at-test.true c.loop-at.auto.at c.index-bindings-at.is c.if-binding-variable.true)
    ∙ c.loop-at.invariant
    ∙ last_read _ _ _ _ c.items-bindings.ensures c.self.view_is

pub loop-at-preserved : goal.loop-at-preserved
loop-at-preserved c = last_passed _ _ _ _ c.loop-at-test.true c.loop-at.auto.at c.index-bindings-at.is c.if-binding-variable.false ∙ c.loop-at.invariant

pub returns : goal.returns
returns c = sym (last_none _ _ _ c.loop-at-test.false) ∙ c.loop-at.invariant ∙ last_read _ _ _ _ c.items-bindings.ensures c.self.view_is
