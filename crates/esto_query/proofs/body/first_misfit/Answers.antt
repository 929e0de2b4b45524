use Rattle.std.proofs.Common.{sym, ◌∙◌}
use Rattle.esto_query.specs.Schemas.{arities_of}
use Rattle.esto_query.proofs.MisfitLemmas.{AreOver-none, AreOver-more, AreOver-all, IsFirstMisfit-here}
use Rattle.esto_query.proofs.body.first_misfit.Goals as goal

pub loop-place-init : goal.loop-place-init
loop-place-init c = AreOver-none (arities_of c.args.schema.now) c.args.atoms.now

pub loop-place-preserved : goal.loop-place-preserved
loop-place-preserved c =
    AreOver-more (arities_of c.args.schema.now) c.args.atoms.now c.loop-place.place c.index-atoms-place.result _ c.loop-place-test.true
    c.index-atoms-place.is c.arity.ensures.value c.loop-place.invariant (sym c.len.ensures ∙ c.if-len-arity.false)

pub returns-then-len-arity : goal.returns-then-len-arity
returns-then-len-arity c =
    IsFirstMisfit-here (arities_of c.args.schema.now) c.args.atoms.now c.loop-place.place c.index-atoms-place.result _ c.loop-place-test.true
    c.index-atoms-place.is c.arity.ensures.value c.loop-place.invariant (λ same. c.if-len-arity.true (c.len.ensures ∙ same))

pub returns : goal.returns
returns c = AreOver-all (arities_of c.args.schema.now) c.args.atoms.now c.loop-place.place c.loop-place-test.false c.loop-place.invariant
