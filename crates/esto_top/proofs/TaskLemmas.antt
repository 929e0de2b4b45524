-- What a command does over its catalogue is what its words ask for.
use Rattle.std.proofs.Common.{ℕ, List, Option, Result}
use Rattle.esto_course.specs.Course.{Names}
use Rattle.esto_ports.specs.Files.{Files}
use Rattle.esto_status.specs.Answers.{Answers}
use Rattle.esto_status.specs.Asked.{AsksIn}
use Rattle.esto_status.specs.declared.reply.Reply.{Reply}
use Rattle.esto_status.specs.declared.status.Status.{Status}
use Rattle.esto_top.specs.DataOutcomes.{AnswersFill}
use Rattle.esto_top.specs.Grammar.{IsNamed, asked_over, course_of_asked}
use Rattle.esto_top.specs.Over.{over_catalogue}
use Rattle.esto_top.specs.Tasks.{serves}
use Rattle.esto_top.specs.declared.queries.QueryTask.TheVariants as query_task
use Rattle.esto_top.specs.declared.task.Task.{Task}
use Rattle.esto_top.specs.declared.task.Task.TheVariants as task
use Rattle.esto_top.specs.declared.unions.UnionTask.TheVariants as union_task
use Rattle.esto_top.proofs.WeakerLemmas.{IsWeaker, fill_weaker, weaker_itself}

module _ (files : Option Files) (catalogue : List ℕ) where
  pub task_weaker : (task : Task) → IsNamed (asked_over catalogue task)
      → IsWeaker (over_catalogue files catalogue (serves files task)) (course_of_asked files (asked_over catalogue task))
  task_weaker (task.Fill fragment) named = fill_weaker files catalogue fragment.now
  task_weaker (task.Query query (query_task.Compare left)) named = absurd named
  task_weaker (task.Query query query_task.Minimise) named = weaker_itself _
  task_weaker (task.Query query (query_task.Explain number)) named = weaker_itself _
  task_weaker (task.Query query (query_task.Verify numbers file)) named = absurd named
  task_weaker (task.Union query union_task.List) named = weaker_itself _
  task_weaker (task.Union query (union_task.Run number)) named = weaker_itself _
  task_weaker (task.Union query union_task.Answer) named = weaker_itself _
  task_weaker _ named = weaker_itself _

  -- and `fill` does more than that
  module _ (before after : Option Names) (rose : Type 0) (result : Result Reply Status) where
    pub task_fills : (task : Task) → Answers (over_catalogue files catalogue (serves files task)) rose result
        → AsksIn before after (over_catalogue files catalogue (serves files task)) result
        → AnswersFill (asked_over catalogue task) files before after rose result
    task_fills (task.Fill fragment) answers asks = (answers, asks)
    task_fills (task.Query query (query_task.Compare left)) answers asks = tt
    task_fills (task.Query query query_task.Minimise) answers asks = tt
    task_fills (task.Query query (query_task.Explain number)) answers asks = tt
    task_fills (task.Query query (query_task.Verify numbers file)) answers asks = tt
    task_fills (task.Union query union_task.List) answers asks = tt
    task_fills (task.Union query (union_task.Run number)) answers asks = tt
    task_fills (task.Union query union_task.Answer) answers asks = tt
    task_fills _ answers asks = tt
