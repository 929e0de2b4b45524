use Rattle.std.proofs.Common.{refl}
use Rattle.std.proofs.lemmas.Result.{on_ok_weaker}
use Rattle.esto_views.proofs.ReadingLemmas.{place_known, place_new}
use Rattle.esto_views.proofs.reading.read_term.Goals as goal

pub returns-then-not-is_new : goal.returns-then-not-is_new
returns-then-not-is_new c so_far =
    place_known c.args.terms.now c.args.seen.now c.args.place c.args.term.now c.requires so_far (c.if-not-is_new.ensures.known refl)

pub returns : goal.returns
returns c =
    let new = c.if-not-is_new.ensures.new refl in
    on_ok_weaker c.push.result
    (λ pushed so_far. place_new c.args.terms.now c.args.seen.now c.args.place c.args.term.now c.requires so_far c.push.new.self
    (rw c.in_ok-copy.ensures at pushed) new.0 new.1) c.push.ensures.ok
