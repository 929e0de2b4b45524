use Rattle.std.proofs.Common.{Ok, ap, arith, length, slice_get, ◌∙◌}
use Rattle.esto_docmodel.specs.declared.file.Store.{Store}
use Rattle.esto_query.specs.Making.{query_of}
use Rattle.esto_semantics.specs.Queries.{IsAnswer}
use Rattle.esto_views.specs.declared.fragments.FragmentDef.{FragmentDef}
use Rattle.esto_fill.specs.Databases.{database_of}
use Rattle.esto_fill.specs.Filled.{Fills, IsOpenedAs, with_mark}
use Rattle.esto_ports.specs.Marks.{without_mark}
use Rattle.esto_fill.proofs.FilledLemmas.{both_there, opened_as, rows_wide}
use Rattle.esto_data.proofs.coded_filled.fill_coded.Goals as goal

pub item-store-requires : goal.item-store-requires
item-store-requires c = omega (arith, c.requires.fragment, (c.catalogues_are_sound.ensures c.args.catalogue.now).stored)

pub text_of-requires-clause-fits : goal.text_of-requires-clause-fits
text_of-requires-clause-fits c =
    (c.catalogues_are_sound.ensures c.args.catalogue.now).shapes c.args.fragment c.item-store.result.now c.item-definition.result.now
    c.item-store.ensures c.item-definition.ensures

pub text_of-requires-clause-wide : goal.text_of-requires-clause-wide
text_of-requires-clause-wide c =
    let loaded = c.requires.coded.0 in
    rows_wide (query_of c.item-definition.result.now.view) (database_of loaded.facts) c.in_ok-rows.rows
    (c.in_ok-rows.ensures.rows loaded c.requires.coded.1).exact

pub returns-clause-text : goal.returns-clause-text
returns-clause-text c loaded its =
    let catalogue = c.args.catalogue.now in
    let definition = c.item-definition.result.now in
    let store = c.item-store.result.now in
    let database = database_of loaded.facts in
    both_there (λ (its : FragmentDef) (own : Store). Fills own.shape (IsAnswer (query_of its.view) database) (Ok c.in_ok-file.file))
    (slice_get catalogue.fragments c.args.fragment) (slice_get catalogue.stores c.args.fragment) definition store c.item-definition.ensures
    c.item-store.ensures
    (c.in_ok-rows.rows, c.in_ok-rows.ensures.rows loaded its, c.in_ok-text.ensures.text.0, c.in_ok-file.ensures ∙ ap with_mark c.in_ok-text.ensures.text.1)

pub returns-clause-opened : goal.returns-clause-opened
returns-clause-opened c loaded its =
    let catalogue = c.args.catalogue.now in
    let definition = c.item-definition.result.now in
    let store = c.item-store.result.now in
    let database = database_of loaded.facts in
    both_there (λ (its : FragmentDef) (own : Store). IsOpenedAs own.shape (length its.view.head) (IsAnswer (query_of its.view) database)
    (without_mark c.in_ok-file.file)) (slice_get catalogue.fragments c.args.fragment) (slice_get catalogue.stores c.args.fragment) definition store
    c.item-definition.ensures c.item-store.ensures
    (opened_as store.shape (length definition.view.head) (IsAnswer (query_of definition.view) database) c.in_ok-rows.rows c.in_ok-text.text c.in_ok-file.file
    (c.in_ok-rows.ensures.rows loaded its).exact c.in_ok-text.ensures.opened c.in_ok-file.ensures)
