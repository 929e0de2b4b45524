use Rattle.std.proofs.Common.{◌<◌, [], ℕ, List, map, get_or, Contains, refl, sym, subst}
use Rattle.std.specs.List.{AllZip}
use Rattle.std.proofs.lemmas.List.Elements.{Contains-get_or}
use Rattle.std.proofs.lemmas.List.{length-map}
use Rattle.esto_views.proofs.PatternLemmas.{patterns_at}
use Rattle.esto_views.specs.declared.fragments.FragmentDef.{FragmentDef}
use Rattle.esto_semantics.specs.Maps.{IsFixedBy}
use Rattle.esto_term.proofs.ListLemmas.{map_at}
use Rattle.esto_views.specs.Fragments.{patterns_of}
use Rattle.esto_views.specs.Plans.{fact_of}
use Rattle.esto_columns.proofs.CodingLemmas.{grows_on}
use Rattle.esto_steps.specs.Planned.{IsGetOf, IsKnown, IsSource, AreStepsAfter, CanPlan, atoms_of}
use Rattle.esto_plan.proofs.PlanLemmas.{IsPlannedBelow, planned_start, planned_more, can_here, fragment_there, head_known, planned_all}
use Rattle.esto_term.specs.declared.term.Term.{Term}
use Rattle.esto_plan.proofs.planning.steps_of.Goals as goal

pub item-atom-requires : goal.item-atom-requires
item-atom-requires c =
    c.requires.named (get_or c.items-number-items.result.now c.atoms.number-index 0)
    (subst (λ them. Contains them (get_or c.items-number-items.result.now c.atoms.number-index 0)) c.items-number-items.ensures
    (Contains-get_or c.items-number-items.result.now c.atoms.number-index 0 c.atoms-test.true))

pub item-requires : goal.item-requires
item-requires c =
    subst (λ it. c.item-atom.result.now.fragment < it) (length-map c.args.fragments.now (λ (it : FragmentDef). it.access))
    (fragment_there (patterns_of c.args.fragments.now)
    (map fact_of c.args.plan.now.atoms) c.items-number-items.result.now c.atoms.number-index c.args.codes.now c.atoms.codes c.atoms.bound c.atoms.gets
    c.atoms.invariant
    (get_or c.items-number-items.result.now c.atoms.number-index 0) (fact_of c.item-atom.result.now) c.atoms-test.true refl
    (map_at fact_of c.args.plan.now.atoms (get_or c.items-number-items.result.now c.atoms.number-index 0) c.item-atom.result.now c.item-atom.ensures))

pub push_get-requires-clause-met : goal.push_get-requires-clause-met
push_get-requires-clause-met c =
    let here = can_here (patterns_of c.args.fragments.now)
    (map fact_of c.args.plan.now.atoms) c.items-number-items.result.now c.atoms.number-index c.args.codes.now c.atoms.codes c.atoms.bound c.atoms.gets
    c.atoms.invariant
    (get_or c.items-number-items.result.now c.atoms.number-index 0) (fact_of c.item-atom.result.now) c.atoms-test.true refl
    (map_at fact_of c.args.plan.now.atoms (get_or c.items-number-items.result.now c.atoms.number-index 0) c.item-atom.result.now c.item-atom.ensures) in
    let same = patterns_at c.args.fragments.now c.item-atom.result.now.fragment c.item.result.now c.item.ensures in (
      here.0.0,
      subst (λ them. Contains them here.0.0) same here.0.1,
      here.0.2,
    )

pub push_get-requires-clause-columns : goal.push_get-requires-clause-columns
push_get-requires-clause-columns c = λ pattern among.
    let here = can_here (patterns_of c.args.fragments.now)
    (map fact_of c.args.plan.now.atoms) c.items-number-items.result.now c.atoms.number-index c.args.codes.now c.atoms.codes c.atoms.bound c.atoms.gets
    c.atoms.invariant
    (get_or c.items-number-items.result.now c.atoms.number-index 0) (fact_of c.item-atom.result.now) c.atoms-test.true refl
    (map_at fact_of c.args.plan.now.atoms (get_or c.items-number-items.result.now c.atoms.number-index 0) c.item-atom.result.now c.item-atom.ensures) in
    let same = patterns_at c.args.fragments.now c.item-atom.result.now.fragment c.item.result.now c.item.ensures in
    here.1 pattern (subst (λ them. Contains them pattern) (sym same) among)

pub atoms-preserved : goal.atoms-preserved
atoms-preserved c =
    let got = c.in_ok-push_get.ensures.get in
    let same = patterns_at c.args.fragments.now c.item-atom.result.now.fragment c.item.result.now c.item.ensures in
    planned_more (patterns_of c.args.fragments.now)
    (map fact_of c.args.plan.now.atoms) c.items-number-items.result.now c.atoms.number-index c.args.codes.now c.atoms.codes c.atoms.bound c.atoms.gets
    c.atoms.invariant
    (get_or c.items-number-items.result.now c.atoms.number-index 0) (fact_of c.item-atom.result.now) c.atoms-test.true refl
    (map_at fact_of c.args.plan.now.atoms (get_or c.items-number-items.result.now c.atoms.number-index 0) c.item-atom.result.now c.item-atom.ensures)
    c.push_get.new.codes got.0 c.push_get.new.bound c.push_get.new.gets c.push_get.ensures.grown
    (subst (λ them. IsGetOf c.push_get.new.codes them c.atoms.bound (fact_of c.item-atom.result.now) got.0) (sym same) got.1)
    c.in_ok-push_get.ensures.bound got.2

pub returns-in_err-push_get-clause-grown : goal.returns-in_err-push_get-clause-grown
returns-in_err-push_get-clause-grown c =
    grows_on c.args.codes.now c.atoms.codes c.push_get.new.codes c.atoms.invariant.grown c.push_get.ensures.grown

pub head_of-requires : goal.head_of-requires
head_of-requires c = λ term inside.
    subst (λ them. IsKnown them term) (sym c.items.ensures)
    (head_known (patterns_of c.args.fragments.now)
    (map fact_of c.args.plan.now.atoms) c.items-number-items.result.now c.atoms.number-index c.args.codes.now c.atoms.codes c.atoms.bound c.atoms.gets
    c.atoms.invariant c.atoms-test.false term
    (subst (λ them. IsFixedBy (atoms_of (map fact_of c.args.plan.now.atoms) them) term) (sym c.items-number-items.ensures) (c.requires.safe term inside)))

pub returns-clause-steps : goal.returns-clause-steps
returns-clause-steps c =
    subst (λ them. AreStepsAfter c.head_of.new.codes (patterns_of c.args.fragments.now) c.args.plan.now.head c.in_ok-head.head []
    (atoms_of (map fact_of c.args.plan.now.atoms) them) c.atoms.gets) c.items-number-items.ensures
    (planned_all (patterns_of c.args.fragments.now)
    (map fact_of c.args.plan.now.atoms) c.items-number-items.result.now c.atoms.number-index c.args.codes.now c.atoms.codes c.atoms.bound c.atoms.gets
    c.atoms.invariant c.atoms-test.false
    c.head_of.new.codes c.args.plan.now.head c.in_ok-head.head c.head_of.ensures.grown
    (subst (λ them. AllZip (IsSource c.head_of.new.codes them) c.args.plan.now.head c.in_ok-head.head) c.items.ensures c.in_ok-head.ensures.head))

pub atoms-init : goal.atoms-init
atoms-init c =
    let patterns = patterns_of c.args.fragments.now in
    let atoms = map fact_of c.args.plan.now.atoms in
    let order = c.items-number-items.result.now in
    let codes = c.args.codes.now in
    subst (IsPlannedBelow patterns atoms order 0 codes codes c.args.bound.now) (sym c.new-gets.ensures)
    (subst (λ (them : List Term). IsPlannedBelow patterns atoms order 0 codes codes them []) (sym c.requires.none)
    (planned_start patterns atoms order codes
    (subst (λ (them : List ℕ). CanPlan patterns [] (atoms_of atoms them)) (sym c.items-number-items.ensures) c.requires.can)))

pub returns-in_err-head-clause-grown : goal.returns-in_err-head-clause-grown
returns-in_err-head-clause-grown c =
    grows_on c.args.codes.now c.atoms.codes c.head_of.new.codes c.atoms.invariant.grown c.head_of.ensures.grown

pub returns-clause-grown : goal.returns-clause-grown
returns-clause-grown c = grows_on c.args.codes.now c.atoms.codes c.head_of.new.codes c.atoms.invariant.grown c.head_of.ensures.grown
