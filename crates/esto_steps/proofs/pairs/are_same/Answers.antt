use Rattle.std.proofs.Common.{◌≡◌, Some, get_or, slice_get, sym, subst, ◌∙◌, arith}
use Rattle.std.proofs.lemmas.List.{get_or_default}
use Rattle.esto_term.proofs.ListLemmas.{holds_more, holds_all, place-from_Contains}
use Rattle.esto_steps.specs.declared.steps.Source.TheVariants.{Code}
use Rattle.esto_steps.specs.Paired.{code_in}
use Rattle.esto_steps.proofs.PairLemmas.{same_codes}
use Rattle.esto_steps.proofs.pairs.are_same.Goals as goal

pub sources-init : goal.sources-init
sources-init c = λ place source below. absurd (omega (arith, below))

pub sources-preserved : goal.sources-preserved
sources-preserved c =
    let source = get_or c.items-source-items.result.now c.sources.source-index (Code 0) in
    holds_more (λ _ source. code_in c.args.so_far.now c.args.rows.now c.args.pair source ≡ code_in c.args.so_far.now c.args.rows.now c.args.other source)
    c.items-source-items.result.now c.sources.source-index source c.sources-test.true (get_or_default _ _ _ _ c.sources-test.true) c.sources.invariant
    (sym c.code_in.ensures ∙ same_codes c.code_in.result c.code_in-in-sources.result (sym c.ne.ensures ∙ c.if-ne.false) ∙ c.code_in-in-sources.ensures)

pub returns : goal.returns
returns c = λ _ source inside.
    let at = place-from_Contains c.args.kept.now source inside in
    holds_all (λ _ it. code_in c.args.so_far.now c.args.rows.now c.args.pair it ≡ code_in c.args.so_far.now c.args.rows.now c.args.other it)
    c.items-source-items.result.now c.sources.source-index c.sources-test.false c.sources.invariant at.0 source
    (subst (λ them. slice_get them at.0 ≡ Some source) (sym c.items-source-items.ensures) at.1)
