use Rattle.std.proofs.Common.{◌≡◌, ◌+◌, ◌++◌, length, refl, inl, inr, subst, arith}
use Rattle.std.proofs.lemmas.Option.{slice_get_within}
use Rattle.esto_query.specs.Making.{IsFirstMisfit}
use Rattle.esto_query.specs.Schemas.{arities_of}
use Rattle.esto_constraint.proofs.MakingLemmas.{AreOver-append, IsFirstMisfit-body, IsFirstMisfit-head}
use Rattle.esto_constraint.proofs.make.tuple_fault.Goals as goal

pub returns-in-Some : goal.returns-in-Some
returns-in-Some c = IsFirstMisfit-body _ _ c.args.head.now _ c.in-Some.ensures

pub returns-in-Some-first_misfit : goal.returns-in-Some-first_misfit
returns-in-Some-first_misfit c =
    let over = c.in_default.ensures in
    let first = c.in-Some-first_misfit.ensures in
    let place : length c.args.body.now + c.in-Some-first_misfit.place ≡ c.in-Some-checked_add.after_body =
    omega (arith, c.in-Some-checked_add.ensures.1) in
    subst (IsFirstMisfit (arities_of c.args.schema.now) (c.args.body.now ++ c.args.head.now)) place
    (IsFirstMisfit-head _ c.args.body.now c.args.head.now c.in-Some-first_misfit.place over first)

pub returns-then-body-gt-MAX_ATOMS : goal.returns-then-body-gt-MAX_ATOMS
returns-then-body-gt-MAX_ATOMS c =
    (AreOver-append _ _ _ c.in_default.ensures c.in_default-first_misfit.ensures, (omega arith, inl refl))

pub returns-then-head-gt-MAX_ATOMS : goal.returns-then-head-gt-MAX_ATOMS
returns-then-head-gt-MAX_ATOMS c =
    (AreOver-append _ _ _ c.in_default.ensures c.in_default-first_misfit.ensures, (omega arith, inr (omega arith, refl)))

pub returns : goal.returns
returns c = (AreOver-append _ _ _ c.in_default.ensures c.in_default-first_misfit.ensures, omega arith, omega arith)

pub returns-in_default-checked_add : goal.returns-in_default-checked_add
returns-in_default-checked_add c =
    let misfit = c.in-Some-first_misfit.ensures in
    let within = slice_get_within c.args.head.now c.in-Some-first_misfit.place misfit.atom misfit.there in
    omega (arith, within, c.in_default-checked_add.ensures)
