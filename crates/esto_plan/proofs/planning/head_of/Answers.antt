use Rattle.std.proofs.Common.{◌++◌, ◌∙◌, [], List, Contains, sym, subst}
use Rattle.std.proofs.lemmas.Option.{MatchOption-at_none, MatchOption-at_some}
use Rattle.esto_columns.proofs.CodingLemmas.{grows_on}
use Rattle.esto_steps.specs.Planned.{IsNew, IsSource}
use Rattle.esto_plan.proofs.PlanLemmas.{known_not_new, head_more}
use Rattle.esto_steps.proofs.GrowthLemmas.{grows_refl}
use Rattle.esto_term.specs.declared.term.Term.{Term}
use Rattle.std.proofs.lemmas.List.{take_all}
use Rattle.std.specs.List.{AllZip}
use Rattle.esto_plan.proofs.planning.head_of.Goals as goal

pub unreachable-requires : goal.unreachable-requires
unreachable-requires c =
    known_not_new c.args.bound.now c.term-item.result
    (c.requires c.term-item.result (subst (λ them. Contains them c.term-item.result) c.items-term-items.ensures
    (c.terms.term-index, c.terms-test.true, sym c.term-item.is)))
    (MatchOption-at_none (IsNew (c.args.bound.now ++ []) c.term-item.result)
    (IsSource c.source_of.new.codes (c.args.bound.now ++ []) c.term-item.result) c.in-None.is c.in_ok-source.ensures.source)

pub terms-preserved : goal.terms-preserved
terms-preserved c = (
  head_more c.terms.codes c.source_of.new.codes c.args.bound.now c.items-term-items.result.now c.terms.sources c.push.new.self c.terms.term-index
      c.term-item.result c.in-Some.source c.source_of.ensures.grown c.terms-test.true c.term-item.is
      c.terms.invariant.0 (MatchOption-at_some (IsNew (c.args.bound.now ++ []) c.term-item.result)
      (IsSource c.source_of.new.codes (c.args.bound.now ++ []) c.term-item.result) c.in-Some.source c.in-Some.is c.in_ok-source.ensures.source)
      c.in_ok-push-in-Some.ensures.ok,
  grows_on c.args.codes.now c.terms.codes c.source_of.new.codes c.terms.invariant.1 c.source_of.ensures.grown,
)

pub terms-init : goal.terms-init
terms-init c = (
  subst (AllZip (IsSource c.args.codes.now c.args.bound.now) []) (sym c.new-sources.ensures) tt,
  grows_refl c.args.codes.now,
)

pub returns-in_err-source-clause-grown : goal.returns-in_err-source-clause-grown
returns-in_err-source-clause-grown c = grows_on c.args.codes.now c.terms.codes c.source_of.new.codes c.terms.invariant.1 c.source_of.ensures.grown

pub returns-in_err-push-in-Some-clause-grown : goal.returns-in_err-push-in-Some-clause-grown
returns-in_err-push-in-Some-clause-grown c = grows_on c.args.codes.now c.terms.codes c.source_of.new.codes c.terms.invariant.1 c.source_of.ensures.grown

pub returns-clause-head : goal.returns-clause-head
returns-clause-head c =
    subst (λ (them : List Term). AllZip (IsSource c.terms.codes c.args.bound.now) them c.terms.sources)
    (take_all c.terms.term-index c.items-term-items.result.now c.terms-test.false ∙ c.items-term-items.ensures) c.terms.invariant.0
