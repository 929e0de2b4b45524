use Rattle.std.proofs.Common.{◌<◌, ◌↔◌, ℕ, List, length, Result, Ok, Err, ap, sym, subst, arith, Contains}
use Rattle.std.specs.Prelude.{OnErr, OnOk}
use Rattle.std.proofs.lemmas.List.{length-map}
use Rattle.std.proofs.lemmas.Result.{on_ok_weaker}
use Rattle.esto_steps.specs.Rows.{held_by}
use Rattle.esto_stores.specs.Rows.{Row}
use Rattle.esto_run.specs.Opened.{AreRowsFor, Held, rows_held}
use Rattle.esto_docs.specs.Stores.{IsRowIn}
use Rattle.esto_run.proofs.OpenedLemmas.{held_many, opened_more, elsewhere, rows_are_set, rows_put}
use Rattle.esto_run.proofs.opened.open_fragment.Goals as goal

by_result : {T E P Q R : Type 0} (result : Result T E) → OnOk result P → OnErr result Q → (P → R) → (Q → R) → R
by_result (Ok given) ok err put kept = put ok
by_result (Err error) ok err put kept = kept err

pub item-store-requires : goal.item-store-requires
item-store-requires c = omega (arith, c.requires.there, (c.catalogues_are_sound.ensures c.args.catalogue.now).stored)

pub put-requires-clause-fits : goal.put-requires-clause-fits
put-requires-clause-fits c =
    (c.catalogues_are_sound.ensures c.args.catalogue.now).shapes c.args.number c.item-store.result.now c.item-fragment.result.now
    c.item-store.ensures c.item-fragment.ensures

pub returns-clause-rows : goal.returns-clause-rows
returns-clause-rows c = by_result c.put.result c.put.ensures.ok c.put.ensures.err
    (λ own. rows_put c.args.catalogue.now.fragments c.args.opened.now c.put.new.self c.args.number c.item-fragment.result.now
    own.rows own.put c.item-fragment.ensures own.wide c.requires.rows)
    (λ same. subst (AreRowsFor c.args.catalogue.now.fragments) (sym same) c.requires.rows)

pub returns-clause-opened : goal.returns-clause-opened
returns-clause-opened c = on_ok_weaker c.put.result (λ own files numbers same are.
    let many = held_many c.args.catalogue.now.fragments c.args.opened.now c.requires.rows in
    let there = c.requires.there in
    let long = length-map c.args.opened.now (λ held. held.rows) in
    let below : c.args.number < length (rows_held c.args.opened.now) = omega (arith, many, there, long) in
    opened_more (rows_held c.args.opened.now) (rows_held c.put.new.self) c.args.number own.rows below
    (rows_are_set c.args.catalogue.now.fragments c.args.opened.now c.put.new.self c.args.number c.item-fragment.result.now own.rows
    own.put)
    c.args.catalogue.now.stores files c.item-store.result.now c.item-store.ensures
    (subst (λ (bytes : List ℕ). (row : Row) → Contains own.rows row ↔ IsRowIn c.item-store.result.now.shape bytes row) (sym same)
    own.exact)
    numbers are) c.put.ensures.ok

pub returns-clause-others : goal.returns-clause-others
returns-clause-others c = λ other apart. by_result c.put.result c.put.ensures.ok c.put.ensures.err (λ own.
    let many = held_many c.args.catalogue.now.fragments c.args.opened.now c.requires.rows in
    let there = c.requires.there in
    let long = length-map c.args.opened.now (λ held. held.rows) in
    let below : c.args.number < length (rows_held c.args.opened.now) = omega (arith, many, there, long) in
    elsewhere (rows_held c.args.opened.now) (rows_held c.put.new.self) c.args.number own.rows below
    (rows_are_set c.args.catalogue.now.fragments c.args.opened.now c.put.new.self c.args.number c.item-fragment.result.now own.rows
    own.put) other apart)
    (λ same. ap (λ (held : List Held). held_by (rows_held held) other) same)
