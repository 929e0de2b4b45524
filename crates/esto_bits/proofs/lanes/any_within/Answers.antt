use Rattle.std.proofs.Common.{rules, ◌*◌, ◌<◌, ◌^◌, ◌∙◌, arith, length, sym}
use Rattle.std.proofs.lemmas.Bool.{false≢true}
use Rattle.esto_bits.specs.Words.{LackNoBit}
use Rattle.esto_bits.proofs.LaneLemmas.{group_fits, one_word_within, group_found, group_passed, no_group}
use Rattle.esto_bits.proofs.lanes.any_within.Goals as goal

pub overflow_mul-at : goal.overflow_mul-at
overflow_mul-at c =
    let fits : length c.args.rows.now < 2 ^ 64 = search rules in
    let room = group_fits c.args.rows.now c.args.width c.requires.width (λ part. LackNoBit part c.args.row.now) c.groups.group c.groups-test.true in
    record { fits = omega (arith, fits, room) }

pub offset_bounds-rows-at : goal.offset_bounds-rows-at
offset_bounds-rows-at c =
    let fits : length c.args.rows.now * 8 < 2 ^ 64 = search rules in
    let room = group_fits c.args.rows.now c.args.width c.requires.width (λ part. LackNoBit part c.args.row.now) c.groups.group c.groups-test.true in
    record { fits = omega (arith, fits, room) }

pub returns-then-width-eq1-clause-within : goal.returns-then-width-eq1-clause-within
returns-then-width-eq1-clause-within c =
    one_word_within c.args.rows.now c.args.row.now c.args.width c.if-width-eq1.true c.requires.row c.has_within.result c.has_within.ensures

pub returns-then-row_within-clause-within : goal.returns-then-row_within-clause-within
returns-then-row_within-clause-within c =
    group_found c.args.rows.now c.args.width c.requires.width (λ part. LackNoBit part c.args.row.now) c.groups.group c.groups-test.true
    (c.row_within.ensures.within.0 c.if-row_within.true)

pub groups-preserved : goal.groups-preserved
groups-preserved c =
    group_passed c.args.rows.now c.args.width c.requires.width (λ part. LackNoBit part c.args.row.now) c.groups.group
    (λ lack. false≢true (sym c.if-row_within.false ∙ c.row_within.ensures.within.1 lack)) c.groups.invariant

pub returns-clause-within : goal.returns-clause-within
returns-clause-within c =
    no_group c.args.rows.now c.args.width c.requires.width (λ part. LackNoBit part c.args.row.now) c.groups.group c.groups-test.false c.groups.invariant

pub returns-then-width-eq1-clause-fits : goal.returns-then-width-eq1-clause-fits
returns-then-width-eq1-clause-fits c = λ place. (c.type_inv.rows place).fits

pub returns-then-row_within-clause-fits : goal.returns-then-row_within-clause-fits
returns-then-row_within-clause-fits c = λ place. (c.type_inv.rows place).fits

pub returns-clause-fits : goal.returns-clause-fits
returns-clause-fits c = λ place. (c.type_inv.rows place).fits
