use Rattle.std.proofs.Common.{map, Contains}
use Rattle.esto_query.specs.Making.{query_of}
use Rattle.esto_query.specs.declared.query.Query.{Query}
use Rattle.esto_semantics.specs.Queries.{IsAnswer, IsAnswerInto}
use Rattle.esto_semantics.specs.Standing.{RowsStand}
use Rattle.esto_semantics.specs.Unions.{IsUnionAnswer}
use Rattle.esto_term.specs.declared.term.Term.TheVariants.{Const}
use Rattle.esto_data.specs.CodedParts.{IsUnionRow}
use Rattle.esto_fill.specs.Databases.{database_of, value_of}
use Rattle.esto_data.proofs.CodedRowLemmas.{gives, have_terms, union_back, union_there}
use Rattle.esto_data.proofs.coded_answering.answer_union_coded.Goals as goal

pub shown-requires : goal.shown-requires
shown-requires c =
    let loaded = c.requires.coded.0 in
    have_terms c.union_rows.new.coded.facts.texts c.in_ok-rows.rows.rows (IsUnionRow c.args.queries.now loaded.facts)
    (c.in_ok-rows.ensures.rows loaded c.requires.coded.1)

pub returns-clause-rows : goal.returns-clause-rows
returns-clause-rows c loaded its =
    let queries = c.args.queries.now in
    let facts = loaded.facts in
    let stands = c.facts_stand_as_databases.ensures facts (c.loaded_facts_are_flat.ensures loaded) in
    let stand : (query : Query) → RowsStand value_of (IsAnswerInto Const (query_of query) (Contains facts)) (IsAnswer (query_of query) (database_of facts)) =
    λ query. c.databases_stand_for_facts.ensures.answers facts value_of (database_of facts) (query_of query) stands
    (c.queries_are_sound.ensures query).query in
    gives c.union_rows.new.coded.facts.texts c.in_ok-rows.rows.rows (IsUnionRow queries facts) (IsUnionAnswer (map query_of queries) (database_of facts))
    (c.in_ok-rows.ensures.rows loaded its) (union_there facts (database_of facts) stand queries) (union_back facts (database_of facts) stand queries)
    c.shown.result c.shown.ensures
