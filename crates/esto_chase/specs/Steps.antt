-- What is done at the match that is next.
use Rattle.std.specs.Prelude.{◌≡◌, ℕ, List, [], ◌∷◌, ◌++◌, map}
use Rattle.std.specs.declared.cmp.Ordering.TheVariants.{Less}
use Rattle.esto_term.specs.Kinds.{IsConstant}
use Rattle.esto_term.specs.Order.{term_cmp, replaced}
use Rattle.esto_term.specs.declared.term.Term.{Term}
use Rattle.esto_term.specs.declared.term.Term.TheVariants.{Const}
use Rattle.esto_semantics.specs.Rules.{Rule}
use Rattle.esto_semantics.specs.Valuations.{map_of}
use Rattle.esto_query.specs.declared.matches.Found.{Found}
use Rattle.esto_chase_laws.specs.Runs.{AreSides, IsStep, replaced_facts}
use Rattle.esto_chase_laws.specs.declared.clash.Clash.{Clash}
use Rattle.esto_chase_laws.specs.declared.clash.Clash.TheVariants.{Equal}
use Rattle.esto_instance.specs.Instances.{state_of, trace_of, step_of}
use Rattle.esto_instance.specs.declared.instance.ChaseStep.{ChaseStep}
use Rattle.esto_instance.specs.declared.instance.ChaseStep.TheVariants.{Merged}
use Rattle.esto_instance.specs.declared.instance.Instance.{Instance}

-- The clash is that of the texts of these two constants.
abbrev pub AreTexts : Term → Term → Clash → Type 0
AreTexts one other clash =
    (text : List ℕ) × (other_text : List ℕ) × (one ≡ Const text) × (other ≡ Const other_text) × (clash ≡ Equal text other_text)

-- The instance has the greater of the sides' two values, which is no constant, replaced by the lesser.
pub record Merges (left right : Term) (number : ℕ) (found : Found) (old new : Instance) : Type 0 where
  pub from : Term
  pub to : Term
  pub sides : AreSides (map_of found.valuation) left right to from
  pub lesser : term_cmp to from ≡ Less
  pub no_constant : ¬ (IsConstant from)
  pub facts : (state_of new).body ≡ replaced_facts from to (state_of old).body
  pub head : (state_of new).head ≡ map (replaced from to) (state_of old).head
  pub trace : trace_of new ≡ trace_of old ++ Merged number found from to ∷ []

-- The sides' two values are constants, which the clash has in rising order.
pub record Clashes (left right : Term) (found : Found) (clash : Clash) : Type 0 where
  pub from : Term
  pub to : Term
  pub sides : AreSides (map_of found.valuation) left right to from
  pub lesser : term_cmp to from ≡ Less
  pub texts : AreTexts to from clash

-- The instance has made a step, which stands last in its trace.
pub record IsTaken (rules : List Rule) (old new : Instance) : Type 0 where
  pub step : ChaseStep
  pub trace : trace_of new ≡ trace_of old ++ step ∷ []
  pub is_step : IsStep rules (state_of old) (step_of step) (state_of new)
