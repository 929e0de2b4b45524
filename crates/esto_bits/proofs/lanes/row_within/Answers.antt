use Rattle.std.proofs.Common.{◌∙◌, arith, sym}
use Rattle.std.proofs.lemmas.Bool.{false≢true}
use Rattle.esto_bits.proofs.LaneLemmas.{block_lacks, block_lacks_none, rest_lacks_none}
use Rattle.esto_bits.proofs.lanes.row_within.Goals as goal

pub returns-then-not-block_within-clause-within : goal.returns-then-not-block_within-clause-within
returns-then-not-block_within-clause-within c =
    block_lacks c.args.small.now c.args.large.now c.blocks-2.at
    (λ none. false≢true (sym c.if-not-block_within.true ∙ c.block_within.ensures.1 none))

pub blocks-2-preserved : goal.blocks-2-preserved
blocks-2-preserved c = record {
  inside = omega (arith, c.blocks-2-test.true);
  so_far = block_lacks_none c.args.small.now c.args.large.now c.blocks-2.at (c.block_within.ensures.0 c.if-not-block_within.false)
      c.blocks-2.invariant.so_far;
}

pub returns-clause-within : goal.returns-clause-within
returns-clause-within c =
    rest_lacks_none c.args.small.now c.args.large.now c.blocks-2.at c.rest_within.result c.blocks-2.invariant.so_far c.rest_within.ensures

pub returns-then-not-block_within-clause-fits : goal.returns-then-not-block_within-clause-fits
returns-then-not-block_within-clause-fits c = λ place. (c.type_inv.small place).fits

pub returns-clause-fits : goal.returns-clause-fits
returns-clause-fits c = λ place. (c.type_inv.small place).fits
