use Rattle.std.proofs.Common.{Contains, List, sym, subst}
use Rattle.std.proofs.lemmas.Result.{IfOk-weaker}
use Rattle.esto_query.specs.Making.{query_of}
use Rattle.esto_query.specs.Rows.{IsAscending}
use Rattle.esto_semantics.specs.Queries.{IsAnswer, IsAnswerInto}
use Rattle.esto_term.specs.declared.term.Term.{Term}
use Rattle.esto_term.specs.declared.term.Term.TheVariants.{Const}
use Rattle.esto_fill.specs.Databases.{database_of}
use Rattle.esto_fill.specs.Placing.{IsImageOf}
use Rattle.esto_fill.specs.Texts.{HaveTextsOnly}
use Rattle.esto_fill.proofs.TextLemmas.{answers_flat, images_are, texts_same}
use Rattle.esto_fill.proofs.auditing.view_rows.Goals as goal

pub constant_texts-requires-clause-ascending : goal.constant_texts-requires-clause-ascending
constant_texts-requires-clause-ascending c = subst IsAscending (sym c.items.ensures) c.in_ok-rows.ensures.ascending

pub constant_texts-requires-clause-texts : goal.constant_texts-requires-clause-texts
constant_texts-requires-clause-texts c =
    let query = query_of c.args.view.now in
    let facts = c.args.facts.now in
    let images = images_are c.in_ok-rows.rows (IsAnswerInto Const query (Contains facts)) (IsAnswer query (database_of facts))
    (answers_flat c.databases_stand_for_facts.ensures.answers facts c.requires.flat query (c.queries_are_sound.ensures c.args.view.now).query)
    c.in_ok-rows.ensures.rows in
    subst (λ (those : List (List Term)). HaveTextsOnly (IsImageOf those)) (sym c.items.ensures)
    (λ values image. c.requires.texts values ((images values).0 image))

pub returns : goal.returns
returns c =
    let query = query_of c.args.view.now in
    let facts = c.args.facts.now in
    IfOk-weaker c.constant_texts.result _ _
    (λ texts are.
    texts_same (IsImageOf c.in_ok-rows.rows) (IsAnswer query (database_of facts))
    (images_are c.in_ok-rows.rows (IsAnswerInto Const query (Contains facts)) (IsAnswer query (database_of facts))
    (answers_flat c.databases_stand_for_facts.ensures.answers facts c.requires.flat query (c.queries_are_sound.ensures c.args.view.now).query)
    c.in_ok-rows.ensures.rows) texts are)
    (rw c.items.ensures at c.constant_texts.ensures)
