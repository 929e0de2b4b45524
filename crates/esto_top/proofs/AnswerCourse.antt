-- The course of `answer` comes to an end.
use Rattle.std.proofs.Common.{List, map, Some, Contains, subst}
use Rattle.esto_mapping.specs.declared.catalogue.Catalogue.{Catalogue}
use Rattle.esto_course.specs.Course.{gives}
use Rattle.esto_data.specs.Answer.{IsUnionAnswerOfFacts, answers_facts, answers_union, lists_texts}
use Rattle.esto_data.specs.Datasets.{OneNames, loads}
use Rattle.esto_fill.specs.Databases.{database_of}
use Rattle.esto_run.specs.Texts.{union_rows_text}
use Rattle.esto_status.specs.declared.reply.Reply.TheVariants.{Done}
use Rattle.esto_ports.specs.Files.{Files}
use Rattle.esto_query.specs.Making.{query_of}
use Rattle.esto_query.specs.declared.query.Query.{Query}
use Rattle.esto_semantics.specs.Queries.{ConjunctiveQuery, IsQuery}
use Rattle.esto_term.proofs.ListLemmas.{Contains-map_from}
use Rattle.esto_top.specs.Ends.{EndsOrLacks}
use Rattle.esto_top.specs.LawsBelow.{BelowLaws}
use Rattle.esto_top.proofs.CourseLemmas.{ends_then, gives_ends}
use Rattle.esto_top.proofs.DataEndLemmas.{decided_one_names, loads_end}
use Rattle.esto_top.proofs.TextLemmas.{lists_texts_ends, union_listed}

pub answers_end : BelowLaws → (files : Files) (catalogue : Catalogue) (queries : List Query) → EndsOrLacks (answers_union (Some files) catalogue queries)
answers_end laws files catalogue queries =
    ends_then (loads (Some files) catalogue.datasets (OneNames (map query_of queries))) (answers_facts queries)
    (loads_end files catalogue.datasets (OneNames (map query_of queries)) (decided_one_names (map query_of queries)))
    (λ facts _. ends_then (lists_texts (IsUnionAnswerOfFacts queries facts)) (λ rows. gives (Done (union_rows_text queries rows)))
    (lists_texts_ends (IsUnionAnswerOfFacts queries facts) (union_listed (map query_of queries) are (database_of facts)))
    (λ rows _. gives_ends (Done (union_rows_text queries rows))))
  where
    are : (query : ConjunctiveQuery) → Contains (map query_of queries) query → IsQuery query
    are query inside = let from = Contains-map_from query_of queries query inside in subst IsQuery from.2 (laws.keeps.queries from.0).query
