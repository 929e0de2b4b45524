use Rattle.std.proofs.Common.{Contains, subst}
use Rattle.esto_coded.specs.Shown.{LeastNode}
use Rattle.esto_query.specs.Making.{query_of}
use Rattle.esto_semantics.specs.Queries.{IsAnswer, IsAnswerInto}
use Rattle.esto_term.specs.declared.term.Term.TheVariants.{Const}
use Rattle.esto_fill.specs.Databases.{database_of, value_of}
use Rattle.esto_data.proofs.CodedRowLemmas.{judges_node, judges_texts, stays_itself}
use Rattle.esto_data.proofs.CodedViewLemmas.{free_view}
use Rattle.esto_data.proofs.coded_views.judge_view.Goals as goal

pub returns-then-is_free_view-clause-rows : goal.returns-then-is_free_view-clause-rows
returns-then-is_free_view-clause-rows c loaded its =
    free_view c.args.coded.now.facts loaded.facts its.stand (query_of c.args.view.now) (c.is_free_view.ensures c.if-is_free_view.true)

pub returns-then-is_free_view-clause-stays : goal.returns-then-is_free_view-clause-stays
returns-then-is_free_view-clause-stays c = stays_itself c.args.coded.now

pub returns-in-Some-clause-rows : goal.returns-in-Some-clause-rows
returns-in-Some-clause-rows c loaded its =
    let query = query_of c.args.view.now in
    let facts = loaded.facts in
    let stand = c.databases_stand_for_facts.ensures.answers facts value_of (database_of facts) query
    (c.facts_stand_as_databases.ensures facts (c.loaded_facts_are_flat.ensures loaded)) (c.queries_are_sound.ensures c.args.view.now).query in
    judges_node c.rows_of.new.coded.facts.texts c.in_ok-rows.rows.rows (IsAnswerInto Const query (Contains facts)) (IsAnswer query (database_of facts))
    (c.in_ok-rows.ensures.rows loaded its) stand.there stand.back c.in-Some.place c.node_at.result c.node_at.ensures
    (subst (LeastNode c.in_ok-rows.rows.rows) c.in-Some.is c.least_node.ensures)

pub returns-clause-rows : goal.returns-clause-rows
returns-clause-rows c loaded its =
    let query = query_of c.args.view.now in
    let facts = loaded.facts in
    let stand = c.databases_stand_for_facts.ensures.answers facts value_of (database_of facts) query
    (c.facts_stand_as_databases.ensures facts (c.loaded_facts_are_flat.ensures loaded)) (c.queries_are_sound.ensures c.args.view.now).query in
    judges_texts c.rows_of.new.coded.facts.texts c.in_ok-rows.rows.rows (IsAnswerInto Const query (Contains facts)) (IsAnswer query (database_of facts))
    (c.in_ok-rows.ensures.rows loaded its) stand.there stand.back
    (subst (LeastNode c.in_ok-rows.rows.rows) c.in-None.is c.least_node.ensures)
