use Rattle.std.proofs.Common.{List, map, take, sym, subst}
use Rattle.esto_term.proofs.ListLemmas.{Contains-read}
use Rattle.esto_semantics.specs.Queries.{ConjunctiveQuery}
use Rattle.esto_run.specs.Picks.{candidate_of}
use Rattle.esto_run.proofs.UnionLemmas.{AreAnswersSoFar, have_so_far, more_so_far, rows_so_far}
use Rattle.esto_run.proofs.UsedLemmas.{one_seen}
use Rattle.esto_run.proofs.unions.answers_of_picks.Goals as goal

pub add_answers-requires-clause-runnable : goal.add_answers-requires-clause-runnable
add_answers-requires-clause-runnable c =
    c.requires.runnable c.pick-item.result (Contains-read c.args.picks.now c.picks.pick-index c.pick-item.result c.picks-test.true c.pick-item.is)

pub add_answers-requires-clause-texts : goal.add_answers-requires-clause-texts
add_answers-requires-clause-texts c =
    have_so_far c.args.codes.now c.picks.codes c.args.stored.now c.args.arity c.picks.rows (map candidate_of (take c.picks.pick-index c.args.picks.now))
    c.requires.texts c.picks.invariant

pub add_answers-requires-clause-opened : goal.add_answers-requires-clause-opened
add_answers-requires-clause-opened c =
    rows_so_far c.args.codes.now c.picks.codes c.args.stored.now c.args.arity c.picks.rows (map candidate_of (take c.picks.pick-index c.args.picks.now))
    c.requires.texts c.picks.invariant c.args.fragments.now c.requires.opened

pub picks-preserved : goal.picks-preserved
picks-preserved c =
    let first = c.args.codes.now in
    let stored = c.args.stored.now in
    let pick = c.pick-item.result in
    let seen = map candidate_of (take c.picks.pick-index c.args.picks.now) in
    subst (λ (them : List ConjunctiveQuery). AreAnswersSoFar first c.add_answers.new.codes stored c.args.arity c.add_answers.new.rows them)
    (sym (one_seen c.args.picks.now c.picks.pick-index pick c.picks-test.true c.pick-item.is))
    (more_so_far first c.picks.codes stored c.args.arity c.picks.rows seen c.requires.texts c.picks.invariant c.add_answers.new.codes c.add_answers.new.rows
    (candidate_of pick) c.add_answers.ensures.grown c.in_ok-add_answers.ensures.arity c.in_ok-add_answers.ensures.rows)
