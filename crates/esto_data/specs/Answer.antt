-- What `answer` says of queries.
use Rattle.std.specs.Prelude.{◌≡◌, ℕ, List, Option, map}
use Rattle.esto_mapping.specs.declared.catalogue.Catalogue.{Catalogue}
use Rattle.esto_course.specs.Course.{Course, judges, gives, and_then}
use Rattle.esto_fill.specs.Databases.{database_of}
use Rattle.esto_fill.specs.Texts.{AreTextsOf, IsFirstNodeColumn}
use Rattle.esto_ports.specs.Files.{Files}
use Rattle.esto_query.specs.Making.{query_of}
use Rattle.esto_query.specs.declared.query.Query.{Query}
use Rattle.esto_semantics.specs.Queries.{IsAnswer}
use Rattle.esto_semantics.specs.Unions.{IsUnionAnswer}
use Rattle.esto_semantics.specs.declared.fact.Fact.{Fact}
use Rattle.esto_semantics.specs.declared.fact.Value.{Value}
use Rattle.esto_stores.specs.Rows.{Row}
use Rattle.esto_term.specs.declared.term.Term.{Term}
use Rattle.esto_data.specs.Datasets.{OneNames, loads}
use Rattle.esto_run.specs.Texts.{union_rows_text}
use Rattle.esto_status.specs.declared.reply.Reply.{Reply}
use Rattle.esto_status.specs.declared.reply.Reply.TheVariants.{Done}
use Rattle.esto_status.specs.declared.status.Status.{Status}
use Rattle.esto_status.specs.declared.status.Status.TheVariants.{NodeInRow}

-- The row of values is an answer of the query over the facts.
abbrev pub IsAnswerOfFacts : Query → List (Fact Term) → List Value → Type 0
IsAnswerOfFacts query facts values = IsAnswer (query_of query) (database_of facts) values

-- The row of values is an answer of the union of the queries over the facts.
abbrev pub IsUnionAnswerOfFacts : List Query → List (Fact Term) → List Value → Type 0
IsUnionAnswerOfFacts queries facts values = IsUnionAnswer (map query_of queries) (database_of facts) values

-- The rows of values are listed as texts, each once, in order; or one of them holds an unnamed value.
abbrev pub lists_texts : (List Value → Type 0) → Course Status (List Row)
lists_texts Rows = judges (AreTextsOf Rows) (λ refusal. (column : ℕ) × IsFirstNodeColumn Rows column × (refusal ≡ NodeInRow column))

-- The text of the answers of the union of the queries over the facts is the reply.
abbrev pub answers_facts : List Query → List (Fact Term) → Course Status Reply
answers_facts queries facts =
    and_then (lists_texts (IsUnionAnswerOfFacts queries facts)) (λ rows.
    gives (Done (union_rows_text queries rows)))

-- The datasets that one of the queries names are loaded, and the text of the answers of their union is the reply.
abbrev pub answers_union : Option Files → Catalogue → List Query → Course Status Reply
answers_union files catalogue queries =
    and_then (loads files catalogue.datasets (OneNames (map query_of queries))) (answers_facts queries)
