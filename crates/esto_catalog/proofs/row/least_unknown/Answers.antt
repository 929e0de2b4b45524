use Rattle.std.proofs.Common.{option_copied, ap, arith, ◌≤◌, length, sym, ◌∙◌}
use Rattle.esto_catalog.proofs.LeastLemmas.{known_turn, unknown_turn, copied_match, all_fields}
use Rattle.esto_catalog.proofs.row.least_unknown.Goals as goal
use Rattle.esto_catalog.proofs.row.least_unknown.Goals.{then-not-is_known, else-not-is_known}

pub fields-preserved : goal.fields-preserved
fields-preserved c = elim c.if-not-is_known.branch [
  | then-not-is_known w ↦
      unknown_turn c.args.keys c.args.entry.now c.fields.field-index c.field-item.result
      (option_copied c.fields.least) _ w.lesser.result.now c.fields-test.true c.field-item.is (ap option_copied w.least-is)
      (sym c.is_known.ensures ∙ w.if-not-is_known.true) w.lesser.ensures c.fields.invariant
  | else-not-is_known w ↦
      known_turn c.args.keys c.args.entry.now c.fields.field-index c.field-item.result
      (option_copied c.fields.least) _ c.fields-test.true c.field-item.is (ap option_copied w.least-is)
      (sym c.is_known.ensures ∙ w.if-not-is_known.false) c.fields.invariant
]

pub returns : goal.returns
returns c =
    let le : length c.args.entry.now ≤ c.fields.field-index = omega arith in
    copied_match c.fields.least _ _ (all_fields c.args.keys c.args.entry.now c.fields.field-index (option_copied c.fields.least) le c.fields.invariant)
