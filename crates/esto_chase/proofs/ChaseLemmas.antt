-- The run goes on by the steps that are taken, and comes to an end.
use Rattle.std.proofs.Common.{◌≡◌, ℕ, suc, ◌-◌, ◌<◌, ◌≤◌, List, [], ◌∷◌, length, sym, ap, ◌∙◌, subst, arith}
use Rattle.std.proofs.lemmas.List.{map-append, length-append, length-map}
use Rattle.esto_semantics.specs.Queries.{ConjunctiveQuery}
use Rattle.esto_semantics.specs.Rules.{Rule}
use Rattle.esto_semantics.specs.Containment.{IsSatisfiable}
use Rattle.esto_chase_laws.specs.Bounds.{most_steps}
use Rattle.esto_chase_laws.specs.Runs.{Step, IsRun, begun, went}
use Rattle.esto_instance.specs.Instances.{state_of, trace_of, step_of, steps_of}
use Rattle.esto_instance.specs.declared.instance.Instance.{Instance}
use Rattle.esto_chase.specs.Chased.{ReceivesNothing}
use Rattle.esto_chase.specs.Steps.{IsTaken}

-- ---- the run goes on

module _ (rules : List Rule) (start : ConjunctiveQuery) where
  -- the instance's trace is a run from the start to its state
  abbrev pub HasRun : Instance → Type 0
  HasRun instance = IsRun rules start (steps_of (trace_of instance)) (state_of instance)

  pub run-begun : (instance : Instance) → state_of instance ≡ start → trace_of instance ≡ [] → HasRun instance
  run-begun instance is none =
      subst (λ now. IsRun rules start (steps_of (trace_of instance)) now) (sym is)
      (subst (λ trace. IsRun rules start (steps_of trace) start) (sym none) begun)

  pub run-went : (old new : Instance) → HasRun old → IsTaken rules old new → HasRun new
  run-went old new run taken =
      subst (λ trace. IsRun rules start trace (state_of new))
      (sym (ap steps_of taken.trace ∙ map-append step_of (trace_of old) (taken.step ∷ [])))
      (went (steps_of (trace_of old)) (state_of old) (step_of taken.step) (state_of new) run taken.is_step)

  pub one_step_longer : (old new : Instance) → IsTaken rules old new → length (trace_of new) ≡ suc (length (trace_of old))
  one_step_longer old new taken = ap length taken.trace ∙ (omega (arith, length-append (trace_of old) (taken.step ∷ [])))

  -- what is left of the bound of steps
  abbrev pub left_of : ℕ → Instance → ℕ
  left_of depth instance = most_steps rules start depth - length (trace_of instance)

  pub fewer_left : (depth : ℕ) → ((trace : List Step) (now : ConjunctiveQuery) → IsRun rules start trace now → length trace ≤ most_steps rules start depth)
      → (old new : Instance) → HasRun old → IsTaken rules old new → left_of depth new < left_of depth old
  fewer_left depth bounded old new run taken =
      let bound = bounded (steps_of (trace_of new)) (state_of new) (run-went old new run taken) in
      omega (arith, bound, length-map (trace_of new) step_of, one_step_longer old new taken)

-- ---- what a clash says

pub nothing-unsatisfiable : (rules : List Rule) (start : ConjunctiveQuery) → ReceivesNothing rules start → ¬ (IsSatisfiable rules start)
nothing-unsatisfiable rules start nothing (database, meets, (row, (m, keeps, sends, is))) = nothing database meets m keeps sends
