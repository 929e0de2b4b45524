use Rattle.std.proofs.Common.{IfOk, subst, sym}
use Rattle.esto_condchase.specs.News.{IsSettled, AreFoundAnew}
use Rattle.esto_condchase.proofs.NewsLemmas.{settled_anew}
use Rattle.esto_condchase.proofs.news.matches_since.Goals as goal

pub returns-then-not-has_news-clause-found : goal.returns-then-not-has_news-clause-found
returns-then-not-has_news-clause-found c = settled_anew c.args.entries.now c.args.since c.args.body.now c.args.asked.now c.args.sides.now c.new.result
    c.new.ensures
    (subst (λ it. IsSettled it c.args.since c.args.body.now) c.items.ensures (c.has_news.ensures c.if-not-has_news.true))

pub returns-in-Some-clause-found : goal.returns-in-Some-clause-found
returns-in-Some-clause-found c =
    subst (λ it. IfOk c.anew.result (AreFoundAnew c.args.entries.now c.args.since it c.args.asked.now c.args.sides.now))
    (sym c.in-Some.ensures.cases.0) c.anew.ensures.found

pub returns-in-Some-clause-counted : goal.returns-in-Some-clause-counted
returns-in-Some-clause-counted c = c.anew.ensures.counted
