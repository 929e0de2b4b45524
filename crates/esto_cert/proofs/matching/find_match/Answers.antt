use Rattle.std.proofs.Common.{sym, ◌∙◌}
use Rattle.esto_cert.proofs.MatchLemmas.{judged_there}
use Rattle.esto_cert.proofs.matching.find_match.Goals as goal

pub returns : goal.returns
returns c =
    judged_there c.args.claims.now c.args.body.now c.args.facts.now c.args.links.now c.in-Some.chosen c.in-Some-2.equalities c.items.result.now
    (sym c.in_ok-chosen.ensures ∙ c.in-Some.is) (sym c.in_ok-equalities.ensures ∙ c.in-Some-2.is) c.items.ensures c.in_ok-it.it c.in_ok-it.ensures.chosen
    c.in_ok-it.ensures.renamings c.in_ok-it.ensures.from c.in_ok-it.ensures.to c.if_fits.result c.if_fits.ensures
