use Rattle.std.proofs.Common.{◌≢◌, length, refl, arith}
use Rattle.std.proofs.lemmas.Option.{slice_get_read}
use Rattle.esto_term.proofs.ListLemmas.{each_more}
use Rattle.esto_derive.specs.declared.chains.Reached.{Reached}
use Rattle.esto_derive.proofs.ChainLemmas.{placed_nowhere}
use Rattle.esto_derive.proofs.chains.place_of.Goals as goal

pub places-preserved : goal.places-preserved
places-preserved c =
    each_more (λ (it : Reached). it.term.now ≢ c.args.term.now) c.args.reached.now c.places.place c.index-reached-place.result c.places-test.true
    c.index-reached-place.is
    (λ same. let told = c.equal.ensures.1 same in let not_told = c.if-equal.false in cc) c.places.invariant

pub returns : goal.returns
returns c = placed_nowhere c.args.reached.now c.args.term.now c.places.place (omega (arith, c.places-test.false)) c.places.invariant

pub returns-then-equal : goal.returns-then-equal
returns-then-equal c = (
  c.index-reached-place.result,
  slice_get_read c.args.reached.now (length c.args.reached.now) c.places.place c.index-reached-place.result refl c.places-test.true c.index-reached-place.is,
  c.equal.ensures.0 c.if-equal.true,
)
