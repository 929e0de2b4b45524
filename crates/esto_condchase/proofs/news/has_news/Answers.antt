use Rattle.std.proofs.Common.{arith, subst, sym}
use Rattle.esto_chase_laws.specs.declared.entry.Entry.{Entry}
use Rattle.esto_condchase.specs.News.{IsApart}
use Rattle.esto_condchase.proofs.NewsLemmas.{apart_next, settled}
use Rattle.esto_condchase.proofs.news.has_news.Goals as goal

pub entries-preserved : goal.entries-preserved
entries-preserved c =
    apart_next c.args.entries.now c.args.since c.args.body.now c.entries.place c.index-entries-place.result
    c.entries-test.true c.index-entries-place.is (subst (λ (it : Entry). IsApart it.claim c.args.body.now) (sym c.index-entries-place.is)
    (c.concerns.ensures c.if-concerns.false)) c.entries.invariant

pub returns : goal.returns
returns c = λ _. settled c.args.entries.now c.args.since c.args.body.now
    (λ place d from below inside. c.entries.invariant place d from (omega (arith, inside, c.entries-test.false)) inside)
