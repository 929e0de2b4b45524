use Rattle.std.proofs.Common.{Contains, refl}
use Rattle.esto_term.proofs.ListLemmas.{Contains-nil, Contains-read, each_more, each_seen}
use Rattle.esto_condchase.specs.Ways.{Comes, GoesOn}
use Rattle.esto_known.specs.declared.way.Way.{Way}
use Rattle.esto_condchase.proofs.StepLemmas.{grown_same, grown_then, grown_weaker, goes_kept}
use Rattle.esto_condchase.proofs.steps.match_all.Goals as goal

pub given-init : goal.given-init
given-init c = record {
  grown = grown_same _ c.args.kept.now c.args.kept.now refl;
  tried = λ before inside. absurd (Contains-nil before inside);
  counted = c.requires.counted;
}

pub match_way-requires-clause-lengths : goal.match_way-requires-clause-lengths
match_way-requires-clause-lengths c = c.requires.lengths c.before-item.result
    (Contains-read c.args.given.now c.given.before-index c.before-item.result c.given-test.true c.before-item.is)

pub match_way-requires-clause-count : goal.match_way-requires-clause-count
match_way-requires-clause-count c = c.requires.given c.before-item.result
    (Contains-read c.args.given.now c.given.before-index c.before-item.result c.given-test.true c.before-item.is)

pub given-preserved : goal.given-preserved
given-preserved c =
    let entries = c.args.level.now.known.now in
    let since = c.args.level.now.since in
    let from = c.args.level.now.from.now in
    let atom = c.args.level.now.atom.now in
    let sides = c.args.level.now.sides in
    let places = c.args.level.now.places.now in
    let inside = Contains-read c.args.given.now c.given.before-index c.before-item.result c.given-test.true c.before-item.is in
    let All : Way → Type 0 = λ way. (before : Way) × Contains c.args.given.now before × Comes entries from atom before way in
    record {
      grown = grown_then All c.args.kept.now c.given.kept c.match_way.new.kept c.given.invariant.grown
          (grown_weaker (Comes entries from atom c.before-item.result) All c.given.kept c.match_way.new.kept
          (λ way comes. (c.before-item.result, inside, comes)) c.in_ok-match_way.ensures.grown);
      tried = each_more (λ before. GoesOn entries since from atom sides places before c.match_way.new.kept) c.args.given.now c.given.before-index
          c.before-item.result c.given-test.true c.before-item.is c.in_ok-match_way.ensures.goes
          (λ before its. goes_kept entries since from atom sides places before c.given.kept c.match_way.new.kept c.in_ok-match_way.ensures.grown.kept
          (c.given.invariant.tried before its));
      counted = c.in_ok-match_way.ensures.counted;
    }

pub returns-clause-goes : goal.returns-clause-goes
returns-clause-goes c = each_seen (λ before. GoesOn c.args.level.now.known.now c.args.level.now.since c.args.level.now.from.now c.args.level.now.atom.now
    c.args.level.now.sides c.args.level.now.places.now before c.given.kept) c.args.given.now c.given.before-index c.given-test.false c.given.invariant.tried
