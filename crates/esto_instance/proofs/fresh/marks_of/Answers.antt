use Rattle.std.proofs.Common.{◌+◌, refl, subst, arith}
use Rattle.std.specs.Cmp.{unsigned_Decides}
use Rattle.std.proofs.lemmas.Option.{slice_get_read}
use Rattle.esto_instance.specs.Fresh.{IsFirstRank}
use Rattle.esto_instance.proofs.FreshLemmas.{mark_is, marks_more, marks_all}
use Rattle.esto_instance.proofs.fresh.marks_of.Goals as goal

pub more-preserved : goal.more-preserved
more-preserved c =
    let facts = c.args.facts.now in
    let more = c.args.more.now in
    let at = slice_get_read more _ c.more.place _ refl c.more-test.true c.index-more-place.is in
    marks_more facts more c.more.place c.more.marks c.push.new.self c.index-more-place.result _ c.more-test.true at c.in_ok-push.ensures.ok
    (mark_is facts more c.in_ok-index.index.items c.in_ok-index.ensures.entries c.more.place c.index-more-place.result at c.first_rank.result
    (subst (λ index. IsFirstRank index c.index-more-place.result c.first_rank.result) c.deref.ensures.value c.first_rank.ensures) _
    (unsigned_Decides c.first_rank.result (c.more.place + 1)))
    c.more.invariant

pub returns : goal.returns
returns c = marks_all c.args.facts.now c.args.more.now c.more.place c.more.marks (omega (arith, c.more-test.false, c.more.auto.place-end)) c.more.invariant
