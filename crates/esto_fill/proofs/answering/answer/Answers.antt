use Rattle.std.proofs.Common.{Contains, List, sym, subst}
use Rattle.esto_query.specs.Making.{query_of}
use Rattle.esto_query.specs.Rows.{IsAscending}
use Rattle.esto_semantics.specs.Queries.{IsAnswer, IsAnswerInto}
use Rattle.esto_term.specs.declared.term.Term.{Term}
use Rattle.esto_term.specs.declared.term.Term.TheVariants.{Const}
use Rattle.esto_fill.specs.Databases.{database_of}
use Rattle.esto_fill.specs.Placing.{IsImageOf}
use Rattle.esto_fill.specs.Texts.{GivesTexts}
use Rattle.esto_fill.proofs.TextLemmas.{answers_flat, gives_same, images_are}
use Rattle.esto_fill.proofs.ValueLemmas.{flat_kept}
use Rattle.esto_fill.proofs.answering.answer.Goals as goal

pub texts_of-requires : goal.texts_of-requires
texts_of-requires c = subst IsAscending (sym c.items.ensures) c.in_ok-rows.ensures.ascending

pub returns : goal.returns
returns c =
    let query = query_of c.args.query.now in
    let facts = c.args.loaded.now.facts in
    gives_same (IsImageOf c.in_ok-rows.rows) (IsAnswer query (database_of facts))
    (images_are c.in_ok-rows.rows (IsAnswerInto Const query (Contains facts)) (IsAnswer query (database_of facts))
    (answers_flat c.databases_stand_for_facts.ensures.answers facts (flat_kept facts c.args.loaded.now.sound) query
    (c.queries_are_sound.ensures c.args.query.now).query)
    c.in_ok-rows.ensures.rows)
    c.texts_of.result
    (subst (λ (those : List (List Term)). GivesTexts (IsImageOf those) c.texts_of.result) c.items.ensures c.texts_of.ensures)
