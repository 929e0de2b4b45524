use Rattle.std.proofs.Common.{◌++◌, ◌∷◌, [], map, length, slice_get, sym, subst, ap, ◌∙◌}
use Rattle.std.proofs.lemmas.Result.{on_ok_weaker}
use Rattle.esto_columns.specs.CodedRows.{CodedRows}
use Rattle.esto_columns.specs.Interned.{AreCodedRows}
use Rattle.esto_columns.proofs.CodingLemmas.{codes_long, row_added}
use Rattle.esto_columns.proofs.coding.add_coded.Goals as goal

pub add-requires : goal.add-requires
add-requires c = ap length c.items.ensures ∙ codes_long c.code_row.new.codes c.in_ok-code.code c.args.row.now c.in_ok-code.ensures.coded ∙ c.requires

pub returns-clause-arity : goal.returns-clause-arity
returns-clause-arity c = on_ok_weaker c.add.result (λ is. ap (λ (it : CodedRows). it.arity) is) c.add.ensures.ok

pub returns-clause-coded : goal.returns-clause-coded
returns-clause-coded c = on_ok_weaker c.add.result
    (λ is rows are. subst (λ (it : CodedRows). AreCodedRows c.code_row.new.codes it.rows (rows ++ c.args.row.now ∷ [])) (sym is)
    (row_added c.args.codes.now c.code_row.new.codes c.args.coded.now.rows c.items.result.now rows c.args.row.now c.code_row.ensures.grown
    (ap (map (slice_get c.code_row.new.codes)) c.items.ensures ∙ c.in_ok-code.ensures.coded) are))
    c.add.ensures.ok
