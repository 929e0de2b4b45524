use Rattle.std.proofs.Common.{ℕ, ◌≡◌, ◌<◌, ◌^◌, ◌∙◌, length, slice_index_or, count_ones, sum_by, ap, subst, arith}
use Rattle.esto_term.specs.Sets.{numbers}
use Rattle.esto_bits.proofs.CountLemmas.{few, size_is}
use Rattle.esto_bits.proofs.WordLemmas.{Keep, count_is}
use Rattle.esto_bits.proofs.row_bits.RowBits.size.Goals as goal

pub returns : goal.returns
returns c =
    let keep : Keep c.self.inside.words.items c.self.inside.count c.args.self.now = record { below = c.self.invariant; is = c.self.view_is } in
    let counted : sum_by count_ones c.as_slice.result.now ≡ length (numbers c.args.self.now) =
    ap (sum_by count_ones) c.as_slice.ensures.value
    ∙ size_is c.self.inside.words.items c.self.inside.count c.args.self.now keep
    (subst (λ words. (place : ℕ) → slice_index_or words place 0 < 2 ^ 64) c.as_slice.ensures.value c.bits_in.ensures.fits) in
    omega (arith, counted, few c.args.self.now, c.bits_in.ensures.value, count_is c.self.inside.words.items c.self.inside.count c.args.self.now keep)
