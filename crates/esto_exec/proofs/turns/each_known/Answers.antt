use Rattle.std.proofs.Common.{◌≡◌, Some, slice_get, sym, subst, ◌∙◌, ap}
use Rattle.std.proofs.lemmas.List.{get_or_default}
use Rattle.esto_term.proofs.ListLemmas.{holds_more, holds_all, place-from_Contains}
use Rattle.esto_exec.specs.Slots.{side_of, IsKnown}
use Rattle.esto_exec.specs.Turns.{is_known}
use Rattle.esto_exec.proofs.TurnLemmas.{known_is}
use Rattle.esto_exec.proofs.turns.each_known.Goals as goal

pub links-preserved : goal.links-preserved
links-preserved c =
    holds_more (λ _ link. IsKnown c.args.done.now (side_of c.args.arities.now link.source)) c.items-link-items.result.now c.links.link-index _ c.links-test.true
    (get_or_default _ _ _ _ c.links-test.true) c.links.invariant
    (known_is c.args.done.now _ (sym (c.is_known.ensures ∙ ap (is_known c.args.done.now) c.side_of.ensures) ∙ c.if-not-is_known.false))

pub returns : goal.returns
returns c = λ _ link inside.
    let at = place-from_Contains c.args.links.now link inside in
    holds_all (λ _ it. IsKnown c.args.done.now (side_of c.args.arities.now it.source)) c.items-link-items.result.now c.links.link-index c.links-test.false
    c.links.invariant at.0 link (subst (λ them. slice_get them at.0 ≡ Some link) (sym c.items-link-items.ensures) at.1)
