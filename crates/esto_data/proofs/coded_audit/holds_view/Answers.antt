use Rattle.std.proofs.Common.{Contains, refl, subst}
use Rattle.std.proofs.lemmas.Result.{IfOk-weaker}
use Rattle.esto_coded.specs.Coded.{Coded}
use Rattle.esto_columns.proofs.CodingLemmas.{rows_grow}
use Rattle.esto_columns.specs.Interned.{Grows}
use Rattle.esto_query.specs.Making.{query_of}
use Rattle.esto_semantics.specs.Queries.{IsAnswer, IsAnswerInto}
use Rattle.esto_term.specs.declared.term.Term.TheVariants.{Const}
use Rattle.esto_fill.specs.Databases.{database_of, value_of}
use Rattle.esto_data.proofs.CodedRowLemmas.{same_rows, same_texts, stays_on, stays_same}
use Rattle.esto_data.proofs.coded_audit.holds_view.Goals as goal

pub returns-clause-holds : goal.returns-clause-holds
returns-clause-holds c = IfOk-weaker c.hold_same.result _ _ (λ same says loaded its list codes.
    let query = query_of c.args.view.now in
    let facts = loaded.facts in
    let stand = c.databases_stand_for_facts.ensures.answers facts value_of (database_of facts) query
    (c.facts_stand_as_databases.ensures facts (c.loaded_facts_are_flat.ensures loaded)) (c.queries_are_sound.ensures c.args.view.now).query in
    let texts = c.rows_of.new.coded.facts.texts in
    let held = c.args.rows.now.rows in
    let grown = subst (λ (coded : Coded). Grows coded.texts texts) c.index_joins.ensures c.rows_of.ensures.stays.grown in
    let here = rows_grow c.args.coded.now.facts.texts texts held list grown codes in
    let own = c.in_ok-own.own.rows in
    let are = c.in_ok-own.ensures.rows loaded ((stays_same c.args.coded.now _ c.index_joins.ensures refl).kept loaded its) in (
      (λ yes. same_texts texts own (IsAnswerInto Const query (Contains facts)) (IsAnswer query (database_of facts)) are stand.there stand.back held list here
          (says.0 yes)),
      (λ exact. says.1 (same_rows texts own (IsAnswerInto Const query (Contains facts)) (IsAnswer query (database_of facts)) are stand.there
          stand.back c.in_ok-own.ensures.telling.distinct held list here exact)),
    )) c.hold_same.ensures

pub returns-in_err-index_joins-clause-stays : goal.returns-in_err-index_joins-clause-stays
returns-in_err-index_joins-clause-stays c = stays_same _ _ c.index_joins.ensures refl

pub returns-in_err-own-clause-stays : goal.returns-in_err-own-clause-stays
returns-in_err-own-clause-stays c = stays_on _ _ _ (stays_same _ _ c.index_joins.ensures refl) c.rows_of.ensures.stays

pub returns-clause-stays : goal.returns-clause-stays
returns-clause-stays c = stays_on _ _ _ (stays_same _ _ c.index_joins.ensures refl) c.rows_of.ensures.stays
