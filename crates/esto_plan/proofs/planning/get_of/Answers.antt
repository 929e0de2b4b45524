use Rattle.std.proofs.Common.{◌≤◌, ◌+◌, Bool, List, length, ap, refl, sym, subst, ◌∙◌}
use Rattle.std.proofs.lemmas.Option.{same_Some, slice_get_within}
use Rattle.esto_term.proofs.ListLemmas.{Contains-at}
use Rattle.esto_views.specs.Plans.{fact_of}
use Rattle.esto_columns.proofs.CodingLemmas.{grows_on}
use Rattle.esto_steps.specs.Planned.{CanMeet, IsFirstMet}
use Rattle.esto_steps.proofs.GrowthLemmas.{grows_refl}
use Rattle.esto_plan.proofs.PlanLemmas.{below_start, whole_get}
use Rattle.esto_plan.specs.Planning.{IsGetBelow}
use Rattle.esto_term.specs.declared.term.Term.{Term}
use Rattle.esto_plan.proofs.planning.get_of.Goals as goal

pub unreachable-requires : goal.unreachable-requires
unreachable-requires c = c.in-None.ensures c.requires.met.0 c.requires.met.1
    (subst (λ them. CanMeet c.args.bound.now them c.requires.met.0) (sym c.items.ensures) c.requires.met.2)

pub item-access-requires : goal.item-access-requires
item-access-requires c = slice_get_within c.args.patterns.now c.in-Some.number c.in-Some.ensures.0 c.in-Some.ensures.1

pub columns-init : goal.columns-init
columns-init c = record {
  below = below_start c.args.codes.now c.item-access.result.now c.args.bound.now c.args.atom.now.terms _ c.new.ensures c.new-2.ensures;
  fragment = refl;
  grown = grows_refl c.args.codes.now;
}

pub returns-in_err-add_column-clause-grown : goal.returns-in_err-add_column-clause-grown
returns-in_err-add_column-clause-grown c =
    grows_on c.args.codes.now c.columns.codes c.add_column.new.codes c.columns.invariant.grown c.add_column.ensures.grown

pub returns-clause-get : goal.returns-clause-get
returns-clause-get c = let first = c.in-Some.ensures in
    whole_get c.columns.codes c.args.patterns.now c.args.bound.now (fact_of c.args.atom.now) first.0 c.item-access.result.now c.columns.column c.columns.get
    (subst (λ them. IsFirstMet c.args.patterns.now c.args.bound.now them c.in-Some.ensures.0) c.items.ensures c.in-Some.ensures.2)
    (same_Some c.item-access.result.now first.0 (sym c.item-access.ensures ∙ first.1))
    (c.requires.columns c.item-access.result.now (Contains-at c.args.patterns.now c.in-Some.number c.item-access.result.now c.item-access.ensures))
    (subst (λ it. it ≤ c.columns.column) c.len-column-end.ensures c.columns-test.false) c.columns.invariant.fragment c.columns.invariant.below

pub add_column-requires-clause-columns : goal.add_column-requires-clause-columns
add_column-requires-clause-columns c =
    c.requires.columns c.item-access.result.now (Contains-at c.args.patterns.now c.in-Some.number c.item-access.result.now c.item-access.ensures)
    ∙ ap length (sym c.items-in-columns.ensures)

pub add_column-requires-clause-known : goal.add_column-requires-clause-known
add_column-requires-clause-known c = let first = c.in-Some.ensures in
    subst (λ (them : List Bool). CanMeet c.args.bound.now c.items-in-columns.result.now them)
    (sym (same_Some c.item-access.result.now first.0 (sym c.item-access.ensures ∙ first.1)))
    (subst (λ (them : List Term). CanMeet c.args.bound.now them first.0) (c.items.ensures ∙ sym c.items-in-columns.ensures) first.2.2)

pub columns-preserved : goal.columns-preserved
columns-preserved c = record {
  below = subst (λ (them : List Term). IsGetBelow c.add_column.new.codes c.item-access.result.now c.args.bound.now them (c.columns.column + 1)
      c.add_column.new.get) c.items-in-columns.ensures
      (c.in_ok-add_column.ensures.below (subst (λ (them : List Term). IsGetBelow c.columns.codes c.item-access.result.now c.args.bound.now them
      c.columns.column c.columns.get) (sym c.items-in-columns.ensures) c.columns.invariant.below));
  fragment = c.add_column.ensures.fragment ∙ c.columns.invariant.fragment;
  grown = grows_on c.args.codes.now c.columns.codes c.add_column.new.codes c.columns.invariant.grown c.add_column.ensures.grown;
}
