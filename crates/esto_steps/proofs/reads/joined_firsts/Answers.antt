use Rattle.std.proofs.Common.{◌≤◌, length, arith}
use Rattle.esto_steps.proofs.reads.joined_firsts.Goals as goal

pub joined_early-requires : goal.joined_early-requires
joined_early-requires c = λ cells row among follows.
    let wide : c.arity-width.result ≤ length cells =
    (let width = c.arity-width.ensures.value in let long = c.arity-width.ensures.fits cells among in omega (arith, long, width)) in
    c.in_ok-links.ensures cells row wide follows
