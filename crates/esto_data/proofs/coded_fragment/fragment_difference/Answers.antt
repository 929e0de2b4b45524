use Rattle.std.proofs.lemmas.Result.{IfOk-weaker}
use Rattle.esto_columns.proofs.CodingLemmas.{rows_grow}
use Rattle.esto_fill.specs.Databases.{database_of}
use Rattle.esto_query.specs.Making.{query_of}
use Rattle.esto_semantics.specs.Queries.{IsAnswer}
use Rattle.esto_data.proofs.CompareLemmas.{codes_below, shown_said}
use Rattle.esto_fill.proofs.DifferenceLemmas.{told_judges}
use Rattle.esto_data.proofs.coded_fragment.fragment_difference.Goals as goal

pub sorted_texts-requires : goal.sorted_texts-requires
sorted_texts-requires c =
    let texts = c.view_texts.new.coded.facts.texts in
    let (list, are) = c.requires.rows in
    codes_below texts c.args.rows.now.rows list (rows_grow c.args.coded.now.facts.texts texts c.args.rows.now.rows list c.view_texts.ensures.grown are)

pub returns : goal.returns
returns c = IfOk-weaker c.apart_rows.result _ _ (λ outcome told loaded its list are.
    let old = c.args.coded.now.facts.texts in
    let texts = c.view_texts.new.coded.facts.texts in
    let coded = c.args.rows.now.rows in
    let held = c.in_ok-held.held in
    told_judges (IsAnswer (query_of c.args.fragment.now.view) (database_of loaded.facts)) c.in_ok-own.own held list
    (c.in_ok-own.ensures.rows loaded its).exact
    (shown_said texts coded list (rows_grow old texts coded list c.view_texts.ensures.grown are) held c.in_ok-held.ensures.rows)
    c.args.fragment.now.name outcome (rw (c.items.ensures, c.items-2.ensures) at told)) c.apart_rows.ensures
