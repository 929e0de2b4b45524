use Rattle.std.proofs.Common.{inl, inr, sym}
use Rattle.std.proofs.lemmas.List.Elements.{Contains-append_cases}
use Rattle.esto_steps.proofs.GrowthLemmas.{grows_refl}
use Rattle.esto_plan.proofs.PlanLemmas.{bound_place, own_place}
use Rattle.esto_plan.proofs.planning.source_of.Goals as goal

pub returns-in-Some : goal.returns-in-Some
returns-in-Some c = record {
  source =
      bound_place c.args.codes.now c.args.bound.now c.args.own.now c.args.term.now c.in-Some.place c.in_default.not-Const c.in-Some.ensures;
  grown =
      grows_refl c.args.codes.now;
}

pub returns-in-Some-checked_add : goal.returns-in-Some-checked_add
returns-in-Some-checked_add c = record {
  source = own_place c.args.codes.now c.args.bound.now c.args.own.now c.args.term.now c.in-Some-place_of.place c.in-Some-checked_add.place
      c.in_default.not-Const c.in-Some-place_of.ensures (sym c.in-Some-checked_add.ensures.1);
  grown = grows_refl c.args.codes.now;
}

pub returns-in-None : goal.returns-in-None
returns-in-None c = record {
  source = record {
    variable = λ constant. c.in_default.not-Const constant.0 constant.1;
    absent = λ among. elim (Contains-append_cases c.args.bound.now c.args.own.now c.args.term.now among) [
      | inl before ↦ c.in_default-place_of.ensures before
      | inr inside ↦ c.in-None.ensures inside
    ];
  };
  grown = grows_refl c.args.codes.now;
}
