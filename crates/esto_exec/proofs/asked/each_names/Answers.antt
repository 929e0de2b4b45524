use Rattle.std.proofs.Common.{◌≡◌, ◌≢◌, Some, slice_get, sym, subst}
use Rattle.std.proofs.lemmas.List.{get_or_default}
use Rattle.esto_term.proofs.ListLemmas.{holds_more, holds_all, place-from_Contains}
use Rattle.esto_exec.specs.Slots.{side_of}
use Rattle.esto_exec.specs.declared.slots.Side.TheVariants.{Nothing}
use Rattle.esto_exec.proofs.asked.each_names.Goals as goal

pub links-preserved : goal.links-preserved
links-preserved c =
    holds_more (λ _ link. side_of c.args.arities.now link.source ≢ Nothing) c.items-link-items.result.now c.links.link-index _ c.links-test.true
    (get_or_default _ _ _ _ c.links-test.true) c.links.invariant
    (c.names.ensures c.if-not-names.false)

pub returns : goal.returns
returns c = λ _ link inside.
    let at = place-from_Contains c.args.links.now link inside in
    holds_all (λ _ it. side_of c.args.arities.now it.source ≢ Nothing) c.items-link-items.result.now c.links.link-index c.links-test.false
    c.links.invariant at.0 link (subst (λ them. slice_get them at.0 ≡ Some link) (sym c.items-link-items.ensures) at.1)
