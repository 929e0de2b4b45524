use Rattle.std.proofs.Common.{◌≡◌, [], ◌++◌, Some, get_or, slice_get, Contains, refl, sym, subst, ◌∙◌, arith}
use Rattle.std.proofs.lemmas.Bool.{false≢true}
use Rattle.std.proofs.lemmas.List.{get_or_default}
use Rattle.std.proofs.lemmas.List.Elements.{Contains-get_or}
use Rattle.esto_term.proofs.ListLemmas.{holds_more, holds_all, place-from_Contains}
use Rattle.esto_steps.specs.declared.steps.Source.TheVariants.{Code}
use Rattle.esto_steps.specs.Meaning.{IsMet}
use Rattle.esto_steps.proofs.PairLemmas.{past_is}
use Rattle.esto_steps.proofs.codes.each_passed.Goals as goal

pub links-init : goal.links-init
links-init c = λ place link below. absurd (omega (arith, below))

pub returns-then-not-has_code : goal.returns-then-not-has_code
returns-then-not-has_code c =
    let cells = get_or c.args.so_far.now.rows c.args.pair.left [] in
    let row = get_or c.args.rows.now.rows c.args.pair.right [] in
    let long = c.arity-width.ensures.fits cells (Contains-get_or c.args.so_far.now.rows c.args.pair.left [] c.requires.left) in
    let link = get_or c.items-link-items.result.now c.links.link-index (record { column = 0; source = Code 0 }) in
    let inside = Contains-get_or c.items-link-items.result.now c.links.link-index (record { column = 0; source = Code 0 }) c.links-test.true in (
      λ told. absurd (false≢true told),
      λ each.
          let met = each link (subst (λ them. Contains them link) c.items-link-items.ensures inside) in
          absurd (false≢true (sym c.if-not-has_code.true ∙ c.has_code.ensures.1 (met.0, met.1, c.code_in-code.ensures ∙ past_is c.args.so_far.now.arity cells row link.source long ∙ met.2))),
    )

pub links-preserved : goal.links-preserved
links-preserved c =
    let cells = get_or c.args.so_far.now.rows c.args.pair.left [] in
    let row = get_or c.args.rows.now.rows c.args.pair.right [] in
    let long = c.arity-width.ensures.fits cells (Contains-get_or c.args.so_far.now.rows c.args.pair.left [] c.requires.left) in
    let link = get_or c.items-link-items.result.now c.links.link-index (record { column = 0; source = Code 0 }) in
    let has = c.has_code.ensures.0 c.if-not-has_code.false in
    holds_more (λ _ it. IsMet (cells ++ row) row it)
    c.items-link-items.result.now c.links.link-index _ c.links-test.true (get_or_default _ _ _ _ c.links-test.true) c.links.invariant
    (has.0, has.1, sym (c.code_in-code.ensures ∙ past_is c.args.so_far.now.arity cells row link.source long) ∙ has.2)

pub returns : goal.returns
returns c = (
  λ _ link inside.
      let at = place-from_Contains c.args.links.now link inside in
      holds_all (λ _ it. IsMet (get_or c.args.so_far.now.rows c.args.pair.left [] ++ get_or c.args.rows.now.rows c.args.pair.right []) (get_or c.args.rows.now.rows c.args.pair.right []) it)
      c.items-link-items.result.now c.links.link-index c.links-test.false c.links.invariant at.0 link
      (subst (λ them. slice_get them at.0 ≡ Some link) (sym c.items-link-items.ensures) at.1),
  λ _. refl,
)
