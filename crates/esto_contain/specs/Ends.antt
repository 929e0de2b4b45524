-- The end of a finished run.
use Rattle.std.specs.Prelude.{List}
use Rattle.esto_chase_laws.specs.Runs.{Step, IsRun}
use Rattle.esto_semantics.specs.Instances.{IsFinished}
use Rattle.esto_semantics.specs.Queries.{ConjunctiveQuery}
use Rattle.esto_semantics.specs.Rules.{Rule}

-- Some run from the start has finished there: the facts of its end, read over terms, meet the rules.
pub record FinishesAt (rules : List Rule) (start end : ConjunctiveQuery) : Type 0 where
  pub trace : List Step
  pub run : IsRun rules start trace end
  pub finished : IsFinished rules end
