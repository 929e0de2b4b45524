use Rattle.std.proofs.Common.{sym, ◌∙◌}
use Rattle.std.proofs.lemmas.Bool.{false≢true}
use Rattle.esto_fill.proofs.TextLemmas.{first_open}
use Rattle.esto_fill.proofs.rows.open_place.Goals as goal

pub returns-then-not-is_constant : goal.returns-then-not-is_constant
returns-then-not-is_constant c =
    first_open c.args.row.now c.terms.place c.index-row-place.result c.terms-test.true c.index-row-place.is
    (λ constant. false≢true (sym c.if-not-is_constant.true ∙ c.is_constant.ensures.1 constant)) c.terms.invariant
