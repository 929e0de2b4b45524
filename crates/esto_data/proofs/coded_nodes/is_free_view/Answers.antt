use Rattle.std.proofs.Common.{List, subst, arith}
use Rattle.esto_semantics.specs.declared.fact.Fact.{Fact}
use Rattle.esto_term.specs.declared.term.Term.{Term}
use Rattle.esto_term.proofs.ListLemmas.{holds_all_in, holds_more_in, place-from_Contains}
use Rattle.esto_data.specs.CodedParts.{IsCodedFree}
use Rattle.esto_data.proofs.coded_nodes.is_free_view.Goals as goal

pub terms-init : goal.terms-init
terms-init c place term below at = absurd (omega (arith, below))

pub terms-preserved : goal.terms-preserved
terms-preserved c =
    holds_more_in (λ _ (term : Term). IsCodedFree c.args.facts.now c.args.view.now.body term) c.args.view.now.head _ c.items-term-items.ensures _ _
    c.terms-test.true c.term-item.is c.terms.invariant
    (subst (λ (those : List (Fact Term)). IsCodedFree c.args.facts.now those c.term-item.result) c.items.ensures (c.is_free.ensures c.if-not-is_free.false))

pub returns : goal.returns
returns c _ term inside =
    let at = place-from_Contains c.args.view.now.head term inside in
    holds_all_in (λ _ (its : Term). IsCodedFree c.args.facts.now c.args.view.now.body its) c.args.view.now.head _ c.items-term-items.ensures _
    c.terms-test.false c.terms.invariant at.0 term at.1
