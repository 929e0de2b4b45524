use Rattle.std.proofs.Common.{map, subst, ◌∙◌}
use Rattle.std.specs.Cmp.Lexicographic.{pointwise}
use Rattle.std.specs.Str.{bytes_eq}
use Rattle.esto_relmodel.proofs.SeenLemmas.{added, told_from}
use Rattle.esto_relmodel.proofs.seen.Seen.add.Goals as goal
use Rattle.esto_relmodel.specs.Once.{IsAdded}

pub returns : goal.returns
returns c =
    subst (λ old. IsAdded old (map (λ row. map (λ cell. cell.now) row.items) c.insert_full.new.self.keys) c.args.row.now c.in-Ok.is_new) c.self.view_is
    (added (λ row. map (λ cell. cell.now) row.items) c.args.row.now (λ key. pointwise (λ x y. bytes_eq x.now y.now) c.in_ok-cells.cells.items key.items)
    (λ key. told_from (λ cell. cell.now) c.in_ok-cells.cells.items key.items c.args.row.now (c.in_ok-cells.ensures ∙ c.items.ensures))
    c.self.inside.rows.keys c.insert_full.new.self.keys c.in_ok-cells.cells c.in-Ok.is_new
    (c.in_ok-cells.ensures ∙ c.items.ensures) c.in-Ok.ensures.added c.in-Ok.ensures.keys)
