use Rattle.std.proofs.Common.{[]}
use Rattle.std.proofs.lemmas.Result.{on_ok_weaker}
use Rattle.esto_constraint.specs.Constraints.{rules_of}
use Rattle.esto_known.proofs.DoneLemmas.{handed_on}
use Rattle.esto_condchase.proofs.AskLemmas.{AsksMore-then}
use Rattle.esto_condchase.proofs.RoundLemmas.{AreAnswered-grows}
use Rattle.esto_condchase.proofs.rounds.round.Goals as goal

pub returns-clause-grows : goal.returns-clause-grows
returns-clause-grows c = handed_on c.join.result c.join.new.more c.and.result c.and.ensures _
    (on_ok_weaker c.join.result (λ asks. AsksMore-then (rules_of c.args.rules.now) c.args.count c.args.entries.now [] c.in_ok-more.more c.join.new.more
    c.in_ok-more.ensures.grows (asks (rules_of c.args.rules.now))) c.join.ensures.asks)

pub returns-clause-answered : goal.returns-clause-answered
returns-clause-answered c = handed_on c.join.result c.join.new.more c.and.result c.and.ensures _
    (on_ok_weaker c.join.result (λ asks. AreAnswered-grows (rules_of c.args.rules.now) c.args.entries.now c.args.entries.now c.in_ok-more.more c.join.new.more
    (asks (rules_of c.args.rules.now)).kept c.in_ok-more.ensures.answered) c.join.ensures.asks)

pub returns-clause-joined : goal.returns-clause-joined
returns-clause-joined c = handed_on c.join.result c.join.new.more c.and.result c.and.ensures _ c.join.ensures.joined
