use Rattle.std.proofs.Common.{◌∙◌, arith, refl, sym}
use Rattle.std.proofs.lemmas.Bool.{false≢true}
use Rattle.esto_bits.specs.Words.{IsWordWithin}
use Rattle.esto_bits.proofs.LaneLemmas.{found_in_block, block_passed, rest_says}
use Rattle.esto_bits.proofs.lanes.has_within.Goals as goal

pub returns-then-block_has_within : goal.returns-then-block_has_within
returns-then-block_has_within c = (
  λ _. found_in_block c.args.words.now (IsWordWithin c.args.words.now c.args.word) c.blocks-2.at (omega (arith, c.blocks-2-test.true))
      (c.block_has_within.ensures.0 c.if-block_has_within.true),
  λ _. refl,
)

pub blocks-2-preserved : goal.blocks-2-preserved
blocks-2-preserved c = record {
  inside = omega (arith, c.blocks-2-test.true);
  so_far = block_passed c.args.words.now (IsWordWithin c.args.words.now c.args.word) c.blocks-2.at
      (λ some. false≢true (sym c.if-block_has_within.false ∙ c.block_has_within.ensures.1 some)) c.blocks-2.invariant.so_far;
}

pub returns : goal.returns
returns c =
    rest_says c.args.words.now (IsWordWithin c.args.words.now c.args.word) c.blocks-2.at c.rest_has_within.result c.blocks-2.invariant.so_far
    c.rest_has_within.ensures
