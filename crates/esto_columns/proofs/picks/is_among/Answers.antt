use Rattle.std.proofs.Common.{◌+◌, eqb, w32, lit≤}
use Rattle.std.proofs.lemmas.Simd.{bitmask_splat, length-chunk}
use lib.Lanes.{chunk}
use Rattle.esto_columns.proofs.PickLemmas.{among_none, too_large}
use Rattle.esto_columns.proofs.picks.is_among.Goals as goal

pub returns : goal.returns
returns c = among_none c.args.codes.now c.args.at c.args.code _ c.requires
    (bitmask_splat w32 eqb (chunk c.args.at 8 c.args.codes.now) 8 c.args.code (length-chunk c.args.at 8 c.args.codes.now c.requires) (lit≤ tt))

pub returns-then-code : goal.returns-then-code
returns-then-code c = λ _. too_large c.args.codes.now c.args.at (c.args.at + 8) c.args.code (λ place. (c.type_inv.codes place).fits) c.if-code.true
