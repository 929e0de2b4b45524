use Rattle.std.proofs.Common.{Contains, sym, subst}
use Rattle.std.proofs.lemmas.Result.{on_ok_weaker}
use Rattle.esto_term.proofs.ListLemmas.{Contains-nil}
use Rattle.esto_condchase.specs.Ways.{GoesOn}
use Rattle.esto_known.proofs.DoneLemmas.{handed_on}
use Rattle.esto_known.specs.KeptWays.{AreCounted}
use Rattle.esto_condchase.proofs.StepLemmas.{grown_all}
use Rattle.esto_condchase.proofs.ways.kept_of.Goals as goal

pub match_facts-matched-requires-clause-counted : goal.match_facts-matched-requires-clause-counted
match_facts-matched-requires-clause-counted c = subst (AreCounted c.args.count) (sym c.in_ok-kept.ensures) (λ way inside. absurd (Contains-nil way inside))

pub returns-clause-come : goal.returns-clause-come
returns-clause-come c = handed_on c.match_facts-matched.result c.into_list.result c.and.result c.and.ensures _
    (on_ok_weaker c.match_facts-matched.result (λ grown way inside. grown_all _ _ c.in_ok-kept.kept c.in_ok-kept.ensures grown way
    (subst (λ it. Contains it way) c.into_list.ensures inside)) c.match_facts-matched.ensures.grown)

pub returns-clause-goes : goal.returns-clause-goes
returns-clause-goes c = handed_on c.match_facts-matched.result c.into_list.result c.and.result c.and.ensures _
    (on_ok_weaker c.match_facts-matched.result (λ goes before inside. subst (GoesOn c.args.level.now.known.now c.args.level.now.since c.args.level.now.from.now
    c.args.level.now.atom.now c.args.level.now.sides c.args.level.now.places.now before) (sym c.into_list.ensures) (goes before inside))
    c.match_facts-matched.ensures.goes)

pub returns-clause-counted : goal.returns-clause-counted
returns-clause-counted c = handed_on c.match_facts-matched.result c.into_list.result c.and.result c.and.ensures _
    (on_ok_weaker c.match_facts-matched.result (subst (AreCounted c.args.count) (sym c.into_list.ensures)) c.match_facts-matched.ensures.counted)
