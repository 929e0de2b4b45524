use Rattle.std.proofs.Common.{◌++◌, take, Some, inl, inr, refl, sym, ap, ◌∙◌}
use Rattle.std.proofs.lemmas.Option.{MatchOption-at_none, MatchOption-at_some, slice_get-get_or}
use Rattle.std.proofs.lemmas.Result.{on_ok_weaker}
use Rattle.esto_steps.specs.Planned.{IsNew, IsSource}
use Rattle.esto_plan.proofs.planning.push_link.Goals as goal

pub returns-clause-made : goal.returns-clause-made
returns-clause-made c = on_ok_weaker c.push.result
    (λ grown. (
      c.index-terms-column.result,
      slice_get-get_or c.args.terms.now c.args.column c.index-terms-column.result c.requires.column ∙ ap Some (sym c.index-terms-column.is),
      inr (
        record { column = c.args.column; source = c.in-Some.source },
        refl,
        MatchOption-at_some _ (IsSource c.source_of.new.codes (c.args.bound.now ++ take c.args.count c.args.terms.now) c.index-terms-column.result)
            c.in-Some.source c.in-Some.is c.in_ok-source.ensures.source,
        grown,
      ),
    ))
    c.push.ensures.ok

pub returns-in_default-clause-made : goal.returns-in_default-clause-made
returns-in_default-clause-made c = (
  c.index-terms-column.result,
  slice_get-get_or c.args.terms.now c.args.column c.index-terms-column.result c.requires.column ∙ ap Some (sym c.index-terms-column.is),
  inl (
    MatchOption-at_none (IsNew (c.args.bound.now ++ take c.args.count c.args.terms.now) c.index-terms-column.result)
        (IsSource c.source_of.new.codes (c.args.bound.now ++ take c.args.count c.args.terms.now) c.index-terms-column.result) c.in_default.is
        c.in_ok-source.ensures.source,
    refl,
  ),
)
