use Rattle.std.proofs.Common.{List, Some, None, Contains, subst}
use Rattle.std.specs.Prelude.{Err, Ok}
use Rattle.esto_query.specs.Making.{query_of}
use Rattle.esto_semantics.specs.Queries.{IsAnswer, IsAnswerInto}
use Rattle.esto_term.specs.declared.term.Term.{Term}
use Rattle.esto_term.specs.declared.term.Term.TheVariants.{Const}
use Rattle.esto_fill.specs.Databases.{database_of}
use Rattle.esto_fill.specs.Placing.{IsImageOf, LeastOpen}
use Rattle.esto_fill.proofs.TextLemmas.{answers_flat, images_are, judges_same, texts_only, unjudged}
use Rattle.esto_fill.proofs.views.judge_view.Goals as goal

pub returns-in-Some : goal.returns-in-Some
returns-in-Some c =
    let query = query_of c.args.view.now in
    let facts = c.args.facts.now in
    judges_same (IsImageOf c.in_ok-rows.rows) (IsAnswer query (database_of facts))
    (images_are c.in_ok-rows.rows (IsAnswerInto Const query (Contains facts)) (IsAnswer query (database_of facts))
    (answers_flat c.databases_stand_for_facts.ensures.answers facts c.requires query
    (c.queries_are_sound.ensures c.args.view.now).query) c.in_ok-rows.ensures.rows)
    (Err c.node_at.result)
    (unjudged c.in_ok-rows.rows c.in-Some.place c.node_at.result c.node_at.ensures
    (subst (λ (those : List (List Term)). LeastOpen those (Some c.in-Some.place)) c.items.ensures
    (subst (LeastOpen c.items.result.now) c.in-Some.is c.least_open.ensures)))

pub returns : goal.returns
returns c =
    let query = query_of c.args.view.now in
    let facts = c.args.facts.now in
    judges_same (IsImageOf c.in_ok-rows.rows) (IsAnswer query (database_of facts))
    (images_are c.in_ok-rows.rows (IsAnswerInto Const query (Contains facts)) (IsAnswer query (database_of facts))
    (answers_flat c.databases_stand_for_facts.ensures.answers facts c.requires query
    (c.queries_are_sound.ensures c.args.view.now).query) c.in_ok-rows.ensures.rows)
    (Ok tt)
    (texts_only c.in_ok-rows.rows
    (subst (λ (those : List (List Term)). LeastOpen those None) c.items.ensures (subst (LeastOpen c.items.result.now) c.in-None.is c.least_open.ensures)))
