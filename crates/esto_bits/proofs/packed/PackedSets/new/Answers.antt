use Rattle.std.proofs.Common.{ap, subst, sym}
use Rattle.esto_bits.specs.Kept.{kept}
use Rattle.esto_bits.specs.Pages.{ArePagesOf}
use Rattle.esto_bits.specs.Words.{ArePacked, sets_of, words_for}
use Rattle.esto_bits.proofs.PackedLemmas.{packed-none}
use Rattle.esto_bits.proofs.PageLemmas.{no_pages}
use Rattle.esto_bits.proofs.packed.PackedSets.new.Goals as goal

pub invariant_of-result : goal.invariant_of-result
invariant_of-result c = record {
  packed = subst (λ words. ArePacked words c.args.count 0) (sym c.new.ensures.items) (packed-none c.args.count);
  noted = subst (ArePagesOf _ (words_for c.args.count)) (sym c.new-2.ensures.items) (no_pages _ (words_for c.args.count));
}

pub returns : goal.returns
returns c = ap (λ words. kept c.args.count (sets_of words c.args.count 0)) c.new.ensures.items
