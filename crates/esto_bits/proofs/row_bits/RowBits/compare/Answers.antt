use Rattle.std.proofs.Common.{◌∙◌, sym}
use Rattle.esto_bits.proofs.NumberLemmas.{cmp-has, cmp-lacks, cmp-next}
use Rattle.esto_bits.proofs.SetLemmas.{answer_is, other_false, other_true, same_answers}
use Rattle.esto_bits.proofs.row_bits.RowBits.compare.Goals as goal

pub returns-then-here : goal.returns-then-here
returns-then-here c =
    let mine = answer_is c.args.self.now c.numbers.number _ c.has_at-here.ensures in
    let theirs = answer_is c.args.other.now c.numbers.number _ c.has_at.ensures in
    sym (cmp-has c.args.self.now c.args.other.now c.numbers.number c.numbers.invariant.sizes (sym mine ∙ c.if-here.true)
    (sym theirs ∙ other_false _ _ c.if-here-has_at.true c.if-here.true))
    ∙ c.numbers.invariant.decide

pub returns-else-here : goal.returns-else-here
returns-else-here c =
    let mine = answer_is c.args.self.now c.numbers.number _ c.has_at-here.ensures in
    let theirs = answer_is c.args.other.now c.numbers.number _ c.has_at.ensures in
    sym (cmp-lacks c.args.self.now c.args.other.now c.numbers.number c.numbers.invariant.sizes (sym mine ∙ c.if-here.false)
    (sym theirs ∙ other_true _ _ c.if-here-has_at.true c.if-here.false))
    ∙ c.numbers.invariant.decide

pub numbers-preserved : goal.numbers-preserved
numbers-preserved c =
    let mine = answer_is c.args.self.now c.numbers.number _ c.has_at-here.ensures in
    let theirs = answer_is c.args.other.now c.numbers.number _ c.has_at.ensures in
    let next = cmp-next c.args.self.now c.args.other.now c.numbers.number c.numbers.invariant.sizes
    (sym mine ∙ same_answers _ _ c.if-here-has_at.false ∙ theirs) in
    record { sizes = next.0; decide = next.1 ∙ c.numbers.invariant.decide }
