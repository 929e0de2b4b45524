use Rattle.std.proofs.Common.{◌≤◌, length, arith}
use Rattle.esto_rewriting.proofs.ChoiceLemmas.{above, none_listed, numbered, picked}
use Rattle.esto_rewriting.proofs.choice.choose.Goals as goal

pub returns-in_default : goal.returns-in_default
returns-in_default c = none_listed c.args.listing.now c.args.number c.in_default.ensures

pub returns-in_default-number : goal.returns-in_default-number
returns-in_default-number c = picked c.args.listing.now c.args.number c.in-Some.pick c.in_default-number.is c.in-Some.ensures

pub returns-then-number-listed : goal.returns-then-number-listed
returns-then-number-listed c =
    above c.args.listing.now c.args.number c.in-Some.pick c.in-Some.ensures c.in-Some-number.number c.len-listed.result c.in-Some-number.is
    c.len-listed.ensures c.if-number-listed.true

pub returns : goal.returns
returns c =
    let le : c.in-Some-number.number ≤ length c.args.listing.now = omega (arith, c.if-number-listed.false, c.len-listed.ensures) in
    numbered c.args.listing.now c.args.number c.in-Some.pick c.in-Some.ensures c.in-Some-number.number c.saturating_sub.result c.in-Some-number.is le
    c.saturating_sub.ensures
