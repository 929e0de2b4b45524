-- What planned steps ask.
use Rattle.std.proofs.Common.{◌≡◌, ◌≢◌, inl, inr, ℕ, zero, suc, ◌+◌, ◌≤◌, Bool, true, false, cond, List, [], ◌∷◌, ◌++◌, map, length, get_or, Some, slice_get}
use Rattle.std.proofs.Common.{Contains, sym, ap, ◌∙◌, subst, arith}
use Rattle.std.specs.Prelude.{AllPairs}
use Rattle.std.proofs.lemmas.List.{get_or_default}
use Rattle.std.proofs.lemmas.Option.{slice_get_within}
use Rattle.esto_term.specs.declared.term.Term.{Term}
use Rattle.esto_semantics.specs.Queries.{ConjunctiveQuery}
use Rattle.esto_semantics.specs.declared.fact.Fact.{Fact}
use Rattle.esto_term.proofs.ListLemmas.{Contains-nil, Contains-at, Contains-head, Contains-rest, Contains-cases, Contains-map, Contains-map_from}
use Rattle.esto_columns.specs.Asked.{Shape, IsAllowed}
use Rattle.esto_steps.specs.declared.steps.Get.{Get}
use Rattle.esto_steps.specs.declared.steps.Link.{Link}
use Rattle.esto_steps.specs.declared.steps.Source.{Source}
use Rattle.esto_steps.specs.declared.steps.Steps.{Steps}
use Rattle.esto_steps.specs.Planned.{IsGetOf, AreStepsAfter, AreStepsOf, inputs_from, inputs_of}
use Rattle.esto_exec.specs.Runnable.{AreRunnable}
use Rattle.esto_run.specs.Runnable.{HaveShapes}

-- ---- the inputs of a pattern rise

inputs_past : (from : ℕ) (pattern : List Bool) (column : ℕ) → Contains (inputs_from from pattern) column → from ≤ column
inputs_past from [] column inside = absurd (Contains-nil column inside)
inputs_past from (input ∷ rest) column inside = by input (λ later. let below = inputs_past (from + 1) rest column later in omega (arith, below)) inside
  where
    by : (answer : Bool) → (Contains (inputs_from (from + 1) rest) column → from ≤ column)
        → Contains (cond answer (from ∷ inputs_from (from + 1) rest) (inputs_from (from + 1) rest)) column → from ≤ column
    by true again there = elim (Contains-cases from (inputs_from (from + 1) rest) column there) [ inl is ↦ omega (arith, is) | inr later ↦ again later ]
    by false again there = again there

distinct_cons : (x : ℕ) (xs : List ℕ) → (Contains xs x → ⊥) → AllPairs ◌≢◌ xs → AllPairs ◌≢◌ (x ∷ xs)
distinct_cons x xs absent once zero zero default below inside same = omega (arith, below)
distinct_cons x xs absent once zero (suc j) default below inside same =
    absent (j, omega (arith, inside), get_or_default xs j x default (omega (arith, inside)) ∙ sym same)
distinct_cons x xs absent once (suc i) zero default below inside same = omega (arith, below)
distinct_cons x xs absent once (suc i) (suc j) default below inside same = once i j default (omega (arith, below)) (omega (arith, inside)) same

inputs_once : (from : ℕ) (pattern : List Bool) → AllPairs ◌≢◌ (inputs_from from pattern)
inputs_once from [] = λ i j default below inside same. omega (arith, inside)
inputs_once from (input ∷ rest) = by input (inputs_once (from + 1) rest)
  where
    by : (answer : Bool) → AllPairs ◌≢◌ (inputs_from (from + 1) rest)
        → AllPairs ◌≢◌ (cond answer (from ∷ inputs_from (from + 1) rest) (inputs_from (from + 1) rest))
    by true once = distinct_cons from (inputs_from (from + 1) rest) (λ there. let past = inputs_past (from + 1) rest from there in omega (arith, past)) once
    by false once = once

-- ---- a get may be asked

allowed : (texts : List (List ℕ)) (own : List (List Bool)) (bound : List Term) (atom : Fact Term) (get : Get) (shape : Shape) → IsGetOf texts own bound atom get
    → shape.arity ≡ length atom.terms → shape.ways ≡ map inputs_of own
    → IsAllowed shape (map (λ (link : Link). link.column) get.inputs)
allowed texts own bound atom get shape is arity ways = record {
  there = λ column inside.
      let found = Contains-map_from (λ (link : Link). link.column) get.inputs column inside in
      let linked = is.inputs found.0 found.1 in
      let below = slice_get_within atom.terms found.0.column linked.0 linked.1 in omega (arith, below, found.2, arity);
  once = subst (AllPairs ◌≢◌) (sym is.columns.2) (inputs_once 0 is.columns.0);
  way = (
    inputs_of is.columns.0,
    subst (λ them. Contains them (inputs_of is.columns.0)) (sym ways)
        (Contains-map inputs_of own is.columns.0 (Contains-at own is.columns.1.0 is.columns.0 is.columns.1.1)),
    λ column. (
      (λ inside. subst (λ them. Contains them column) is.columns.2 inside),
      (λ inside. subst (λ them. Contains them column) (sym is.columns.2) inside),
    ),
  );
}

runs : (texts : List (List ℕ)) (patterns : List (List (List Bool))) (head : List Term) (sources : List Source) (bound : List Term) (atoms : List (Fact Term))
    (gets : List Get) (shapes : List Shape)
    → AreStepsAfter texts patterns head sources bound atoms gets → HaveShapes patterns atoms shapes → AreRunnable shapes gets
runs texts patterns head sources bound [] [] shapes are have get inside = absurd (Contains-nil get inside)
runs texts patterns head sources bound [] (_ ∷ gets) shapes are have get inside = absurd are
runs texts patterns head sources bound (atom ∷ atoms) [] shapes are have get inside = absurd are
runs texts patterns head sources bound (atom ∷ atoms) (first ∷ gets) shapes are have get inside = elim (Contains-cases first gets get inside) [
  | inl is ↦
      let shape = have atom (Contains-head atom atoms) in
      subst (λ (it : Get). (own : Shape) × (slice_get shapes it.fragment ≡ Some own) × IsAllowed own (map (λ (link : Link). link.column) it.inputs)) is (
        shape.0,
        ap (slice_get shapes) (are.0).fragment ∙ shape.1,
        allowed texts (get_or patterns atom.relation []) bound atom first shape.0 are.0 shape.2 shape.3,
      )
  | inr later ↦ runs texts patterns head sources (bound ++ atom.terms) atoms gets shapes are.1
      (λ other there. have other (Contains-rest atom atoms other there)) get later
]

pub plans_run : (texts : List (List ℕ)) (patterns : List (List (List Bool))) (query : ConjunctiveQuery) (steps : Steps) (shapes : List Shape)
    → AreStepsOf texts patterns query steps → HaveShapes patterns query.body shapes → AreRunnable shapes steps.gets
plans_run texts patterns query steps shapes are have = runs texts patterns query.head steps.head [] query.body steps.gets shapes are have
