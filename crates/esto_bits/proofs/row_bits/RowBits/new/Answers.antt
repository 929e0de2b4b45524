use Rattle.std.proofs.Common.{◌∙◌, ap, subst, sym}
use Rattle.esto_bits.specs.Words.{AreWordsBelow, set_of}
use Rattle.esto_bits.proofs.WordLemmas.{keep-empty}
use Rattle.esto_bits.proofs.row_bits.RowBits.new.Goals as goal

pub returns-in-Ok : goal.returns-in-Ok
returns-in-Ok c =
    ap (λ words. set_of words c.args.atoms) (c.in-Ok.ensures.items_if_clones_equal (λ word same. same))
    ∙ (keep-empty c.words_for.result c.args.atoms c.words_for.ensures).is

pub invariant_of-result : goal.invariant_of-result
invariant_of-result c =
    subst (λ words. AreWordsBelow words c.args.atoms) (sym (c.in-Ok.ensures.items_if_clones_equal (λ word same. same)))
    (keep-empty c.words_for.result c.args.atoms c.words_for.ensures).below
