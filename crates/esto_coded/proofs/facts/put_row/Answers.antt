use Rattle.std.proofs.Common.{◌<◌, ◌∷◌, [], refl, sym, ap, subst}
use Rattle.std.proofs.lemmas.List.{append-nil}
use Rattle.std.proofs.lemmas.Result.{on_ok_weaker}
use Rattle.esto_columns.specs.CodedRows.{CodedRows}
use Rattle.esto_term.proofs.PlaceLemmas.{item_at}
use Rattle.esto_coded.proofs.RelationLemmas.{place_within, place_long, whole_set, arities_set, order_set}
use Rattle.esto_coded.proofs.facts.put_row.Goals as goal

pub index_mut-relation-requires : goal.index_mut-relation-requires
index_mut-relation-requires c = subst (λ many. c.args.number < many) (sym c.args.relations.now.ok.0)
    (place_within [] c.args.relations.now.items c.args.number _ c.requires)

pub add-requires : goal.add-requires
add-requires c =
    sym (place_long [] c.args.relations.now.items c.args.number _ c.index_mut-relation.result.now c.requires c.index_mut-relation.ensures.value)

pub returns-clause-whole : goal.returns-clause-whole
returns-clause-whole c =
    whole_set c.index_mut-relation.result.now (record { rows = c.add.new.self; ways = c.index_mut-relation.result.now.ways }) c.args.relations.now.items
    c.args.number
    (item_at c.args.relations.now.items c.args.number c.index_mut-relation.result.now
    (place_within [] c.args.relations.now.items c.args.number _ c.requires) c.index_mut-relation.ensures.value) refl

pub returns-clause-row : goal.returns-clause-row
returns-clause-row c =
    let here = item_at c.args.relations.now.items c.args.number c.index_mut-relation.result.now
    (place_within [] c.args.relations.now.items c.args.number _ c.requires) c.index_mut-relation.ensures.value in
    on_ok_weaker c.add.result
    (λ is. record {
      facts = λ texts terms are before stand.
          order_set c.index_mut-relation.result.now (record { rows = c.add.new.self; ways = c.index_mut-relation.result.now.ways })
          texts texts c.args.relations.now.items c.args.number (c.args.row.now ∷ []) ([], sym (append-nil texts)) here
          (ap (λ (it : CodedRows). it.rows) is) before _ ((refl, are), tt) stand;
      arities = arities_set c.index_mut-relation.result.now (record { rows = c.add.new.self; ways = c.index_mut-relation.result.now.ways })
          [] [] c.args.relations.now.items c.args.number here (ap (λ (it : CodedRows). it.arity) is);
    })
    c.add.ensures.ok
