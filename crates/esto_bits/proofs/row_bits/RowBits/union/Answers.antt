use Rattle.std.proofs.Common.{◌≡◌, ◌∙◌, sym, ap, subst}
use Rattle.std.specs.Prelude.{◌↔◌, ◌⊎◌}
use Rattle.esto_term.specs.Sets.{Has, united}
use Rattle.esto_term.proofs.SetLemmas.{has_united}
use Rattle.esto_bits.specs.Words.{AreWordsBelow, set_of}
use Rattle.esto_bits.proofs.row_bits.RowBits.union.Goals as goal

pub union_words-requires : goal.union_words-requires
union_words-requires c = subst (AreWordsBelow c.words.result.now) (sym c.requires) c.words.ensures.below

value : (c : goal.After-union_words) → c.union_words.new.self ≡ united c.args.self.now c.args.other.now
value c = c.union_words.ensures.value
    ∙ ap (united c.args.self.now) (ap (set_of c.words.result.now) c.requires ∙ c.words.ensures.set)

pub returns-clause-value : goal.returns-clause-value
returns-clause-value c = value c

pub returns-clause-has : goal.returns-clause-has
returns-clause-has c number =
    subst (λ row. Has row number ↔ (Has c.args.self.now number ⊎ Has c.args.other.now number)) (sym (value c))
    (has_united c.args.self.now c.args.other.now number)
