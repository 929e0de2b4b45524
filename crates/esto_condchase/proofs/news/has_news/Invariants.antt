use Rattle.esto_condchase.proofs.NewsLemmas.{AreApartBelow}
use Rattle.esto_condchase.proofs.news.has_news.Given as goal

-- the entries so far are apart
abbrev pub invariant-entries : goal.invariant-entries
invariant-entries l = AreApartBelow l.entries l.since l.body l.place
