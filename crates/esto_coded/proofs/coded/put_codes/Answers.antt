use Rattle.std.proofs.Common.{[], refl, sym, ap, subst, ◌<◌}
use Rattle.std.proofs.lemmas.List.{append-nil}
use Rattle.std.proofs.lemmas.Result.{on_ok_weaker}
use Rattle.esto_columns.specs.CodedRows.{CodedRows}
use Rattle.esto_term.proofs.PlaceLemmas.{item_at}
use Rattle.esto_coded.proofs.RelationLemmas.{place_within, place_long, whole_set, arities_set, order_set, stand_set}
use Rattle.esto_coded.proofs.StandLemmas.{text_rows}
use Rattle.esto_coded.proofs.coded.put_codes.Goals as goal

pub index_mut-relation-requires : goal.index_mut-relation-requires
index_mut-relation-requires c = subst (λ many. c.args.number < many) (sym c.args.relations.now.ok.0)
    (place_within [] c.args.relations.now.items c.args.number _ c.requires)

pub put_rows-requires : goal.put_rows-requires
put_rows-requires c =
    place_long [] c.args.relations.now.items c.args.number _ c.index_mut-relation.result.now c.requires c.index_mut-relation.ensures.value

pub returns-clause-whole : goal.returns-clause-whole
returns-clause-whole c =
    whole_set c.index_mut-relation.result.now (record { rows = c.put_rows.new.into; ways = c.index_mut-relation.result.now.ways }) c.args.relations.now.items
    c.args.number
    (item_at c.args.relations.now.items c.args.number c.index_mut-relation.result.now
    (place_within [] c.args.relations.now.items c.args.number _ c.requires) c.index_mut-relation.ensures.value) refl

pub returns-clause-arities : goal.returns-clause-arities
returns-clause-arities c = on_ok_weaker c.put_rows.result
    (λ is. arities_set c.index_mut-relation.result.now (record { rows = c.put_rows.new.into; ways = c.index_mut-relation.result.now.ways })
    [] [] c.args.relations.now.items c.args.number
    (item_at c.args.relations.now.items c.args.number c.index_mut-relation.result.now
    (place_within [] c.args.relations.now.items c.args.number _ c.requires) c.index_mut-relation.ensures.value)
    (ap (λ (it : CodedRows). it.arity) is))
    c.put_rows.ensures

pub returns-clause-facts : goal.returns-clause-facts
returns-clause-facts c = on_ok_weaker c.put_rows.result
    (λ is texts list are facts stand.
    stand_set c.index_mut-relation.result.now (record { rows = c.put_rows.new.into; ways = c.index_mut-relation.result.now.ways })
    texts texts c.args.relations.now.items c.args.number c.args.rows.rows ([], sym (append-nil texts))
    (item_at c.args.relations.now.items c.args.number c.index_mut-relation.result.now
    (place_within [] c.args.relations.now.items c.args.number _ c.requires) c.index_mut-relation.ensures.value)
    (ap (λ (it : CodedRows). it.rows) is) facts _ (text_rows texts c.args.number c.args.rows.rows list are) stand)
    c.put_rows.ensures

pub returns-clause-ordered : goal.returns-clause-ordered
returns-clause-ordered c = on_ok_weaker c.put_rows.result
    (λ is texts list are facts stand.
    order_set c.index_mut-relation.result.now (record { rows = c.put_rows.new.into; ways = c.index_mut-relation.result.now.ways })
    texts texts c.args.relations.now.items c.args.number c.args.rows.rows ([], sym (append-nil texts))
    (item_at c.args.relations.now.items c.args.number c.index_mut-relation.result.now
    (place_within [] c.args.relations.now.items c.args.number _ c.requires) c.index_mut-relation.ensures.value)
    (ap (λ (it : CodedRows). it.rows) is) facts _ (text_rows texts c.args.number c.args.rows.rows list are) stand)
    c.put_rows.ensures
