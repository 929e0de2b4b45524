use Rattle.std.proofs.Common.{◌∙◌, length, subst, sym}
use Rattle.esto_bits.specs.Words.{AreWordsBelow, set_of}
use Rattle.esto_bits.proofs.WordLemmas.{Keep, count_is}
use Rattle.esto_bits.proofs.row_bits.RowBits.words.Goals as goal

pub returns-clause-below : goal.returns-clause-below
returns-clause-below c =
    let keep : Keep c.self.inside.words.items c.self.inside.count c.args.self.now = record { below = c.self.invariant; is = c.self.view_is } in
    subst (λ words. AreWordsBelow words (length c.args.self.now)) (sym c.as_slice.ensures.value)
    (subst (AreWordsBelow c.self.inside.words.items) (count_is c.self.inside.words.items c.self.inside.count c.args.self.now keep) c.self.invariant)

pub returns-clause-set : goal.returns-clause-set
returns-clause-set c =
    let keep : Keep c.self.inside.words.items c.self.inside.count c.args.self.now = record { below = c.self.invariant; is = c.self.view_is } in
    (λ i. set_of (c.as_slice.ensures.value i) (sym (count_is c.self.inside.words.items c.self.inside.count c.args.self.now keep) i)) ∙ c.self.view_is
