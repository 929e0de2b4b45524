use Rattle.std.proofs.Common.{Contains}
use Rattle.esto_query.specs.Making.{query_of}
use Rattle.esto_semantics.specs.Queries.{IsAnswer, IsAnswerInto}
use Rattle.esto_term.specs.declared.term.Term.TheVariants.{Const}
use Rattle.esto_fill.specs.Databases.{database_of, value_of}
use Rattle.esto_data.proofs.CodedRowLemmas.{gives, have_terms}
use Rattle.esto_data.proofs.coded_answering.answer_coded.Goals as goal

pub shown-requires : goal.shown-requires
shown-requires c =
    let loaded = c.requires.0 in
    have_terms c.rows_of.new.coded.facts.texts c.in_ok-rows.rows.rows (IsAnswerInto Const (query_of c.args.query.now) (Contains loaded.facts))
    (c.in_ok-rows.ensures.rows loaded c.requires.1)

pub returns-clause-rows : goal.returns-clause-rows
returns-clause-rows c loaded its =
    let query = query_of c.args.query.now in
    let facts = loaded.facts in
    let stand = c.databases_stand_for_facts.ensures.answers facts value_of (database_of facts) query
    (c.facts_stand_as_databases.ensures facts (c.loaded_facts_are_flat.ensures loaded)) (c.queries_are_sound.ensures c.args.query.now).query in
    gives c.rows_of.new.coded.facts.texts c.in_ok-rows.rows.rows (IsAnswerInto Const query (Contains facts)) (IsAnswer query (database_of facts))
    (c.in_ok-rows.ensures.rows loaded its) stand.there stand.back c.shown.result c.shown.ensures
