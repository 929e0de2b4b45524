-- What a command does over its catalogue, and over a query or a union of queries.
use Rattle.std.specs.Prelude.{List, ℕ, Option}
use Rattle.esto_course.specs.Course.{Course}
use Rattle.esto_data.specs.Answer.{answers_union}
use Rattle.esto_data.specs.Audit.{audits_catalogue}
use Rattle.esto_data.specs.Fill.{fills_named}
use Rattle.esto_mapping.specs.declared.catalogue.Catalogue.{Catalogue}
use Rattle.esto_ports.specs.Files.{Files}
use Rattle.esto_query.specs.declared.query.Query.{Query}
use Rattle.esto_reasoning.specs.Contains.{compares}
use Rattle.esto_reasoning.specs.Minimise.{minimises}
use Rattle.esto_rewriting.specs.Explain.{explains_query}
use Rattle.esto_rewriting.specs.Verify.{verifies_query}
use Rattle.esto_status.specs.declared.reply.Reply.{Reply}
use Rattle.esto_status.specs.declared.status.Status.{Status}
use Rattle.esto_top.specs.Check.{prints_check}
use Rattle.esto_top.specs.Contains.{compares_both}
use Rattle.esto_top.specs.List.{prints_queries}
use Rattle.esto_top.specs.Over.{over_query, over_union}
use Rattle.esto_top.specs.Run.{runs_queries}
use Rattle.esto_top.specs.declared.queries.QueryTask.{QueryTask}
use Rattle.esto_top.specs.declared.queries.QueryTask.TheVariants as query_task
use Rattle.esto_top.specs.declared.task.Task.{Task}
use Rattle.esto_top.specs.declared.task.Task.TheVariants as task
use Rattle.esto_top.specs.declared.unions.UnionTask.{UnionTask}
use Rattle.esto_top.specs.declared.unions.UnionTask.TheVariants as union_task

-- The text of what is told of a query over the catalogue.
abbrev pub tells : Option Files → Catalogue → QueryTask → Query → Course Status (List ℕ)
tells files catalogue (query_task.Compare left) query = compares catalogue left.now query
tells files catalogue query_task.Minimise query = minimises catalogue query
tells files catalogue (query_task.Explain number) query = explains_query number catalogue query
tells files catalogue (query_task.Verify numbers file) query = verifies_query files numbers.now file.now catalogue query

-- The reply for the queries of a union over the catalogue.
abbrev pub serves_union : Option Files → Catalogue → UnionTask → List Query → Course Status Reply
serves_union files catalogue union_task.List queries = prints_queries catalogue queries
serves_union files catalogue (union_task.Run number) queries = runs_queries files catalogue queries number
serves_union files catalogue union_task.Answer queries = answers_union files catalogue queries

-- The reply over the catalogue.
abbrev pub serves : Option Files → Task → Catalogue → Course Status Reply
serves files task.Check catalogue = prints_check catalogue
serves files task.Audit catalogue = audits_catalogue files catalogue
serves files (task.Fill fragment) catalogue = fills_named files fragment.now catalogue
serves files (task.Contains left right) catalogue = compares_both files left.now right.now catalogue
serves files (task.Query query task) catalogue = over_query files query.now catalogue (tells files catalogue task)
serves files (task.Union query task) catalogue = over_union files query.now catalogue (serves_union files catalogue task)
