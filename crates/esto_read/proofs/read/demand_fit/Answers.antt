use Rattle.std.proofs.Common.{inl, refl, arith}
use Rattle.std.proofs.lemmas.Option.{slice_get_within}
use Rattle.esto_read.proofs.HeadLemmas.{missing_fault}
use Rattle.esto_read.proofs.read.demand_fit.Goals as goal

pub repeat-requires : goal.repeat-requires
repeat-requires c = c.requires.names

pub returns-in-Some : goal.returns-in-Some
returns-in-Some c = record { fit = tt; error = (_, inl (refl, c.in-Some.ensures), refl) }

pub bounds-variables-place : goal.bounds-variables-place
bounds-variables-place c =
    let within = slice_get_within c.args.head.now c.in-Some-first_missing.place _ c.in-Some-first_missing.ensures.1 in omega (arith, within, c.requires.lengths)

pub offset_bounds-variables-place : goal.offset_bounds-variables-place
offset_bounds-variables-place c =
    let within = slice_get_within c.args.head.now c.in-Some-first_missing.place _ c.in-Some-first_missing.ensures.1 in omega (arith, within, c.requires.lengths)

pub returns-in-Some-first_missing : goal.returns-in-Some-first_missing
returns-in-Some-first_missing c = record {
  fit = tt;
  error = (
    _,
    missing_fault c.args.form c.args.bytes.now c.args.variables.now c.args.head.now c.args.body.now c.in-Some-first_missing.place _ c.in_default.ensures
        c.requires.lengths c.in-Some-first_missing.ensures,
    c.fault_at.ensures,
  );
}

pub returns-in-None : goal.returns-in-None
returns-in-None c = record { fit = (c.in_default.ensures, c.in-None.ensures); error = tt }
