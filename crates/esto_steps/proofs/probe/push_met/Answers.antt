use Rattle.std.proofs.Common.{[], get_or, Vec, ℕ, Global, sym, ap, subst}
use Rattle.std.proofs.lemmas.List.Elements.{Contains-get_or}
use Rattle.std.proofs.lemmas.Option.{MatchOption-at_some}
use Rattle.std.proofs.lemmas.Result.{on_ok_weaker}
use Rattle.esto_steps.specs.Joined.{IsFollower, IsKept}
use Rattle.esto_steps.specs.Paired.{gained_rows}
use Rattle.esto_steps.specs.Probed.{HaveAllMet}
use Rattle.esto_steps.proofs.GainLemmas.{gains_after}
use Rattle.esto_steps.proofs.ProbeLemmas.{followers_reached}
use Rattle.esto_steps.proofs.probe.push_met.Goals as goal

pub returns-in-Some-clause-rows : goal.returns-in-Some-clause-rows
returns-in-Some-clause-rows c =
    let cells = get_or c.args.so_far.now.rows c.args.at [] in
    on_ok_weaker c.push_at_places.result
    (λ gains. gains_after (gained_rows c.args.join.now.kept.now c.args.so_far.now c.args.rows.now c.args.into.now)
    (gained_rows c.args.join.now.kept.now c.args.so_far.now c.args.rows.now c.begin.new.self)
    (gained_rows c.args.join.now.kept.now c.args.so_far.now c.args.rows.now c.push_at_places.new.into)
    (IsKept c.args.join.now.kept.now (IsFollower c.args.join.now.get.now cells c.args.rows.now.rows))
    (ap (gained_rows c.args.join.now.kept.now c.args.so_far.now c.args.rows.now) c.begin.ensures)
    (followers_reached c.args.join.now.get.now c.args.join.now.kept.now cells c.args.rows.now.rows
    (gained_rows c.args.join.now.kept.now c.args.so_far.now c.args.rows.now c.begin.new.self)
    (gained_rows c.args.join.now.kept.now c.args.so_far.now c.args.rows.now c.push_at_places.new.into) c.args.links.now c.as_slice.result.now
    (subst (HaveAllMet cells c.args.rows.now.rows c.args.links.now) (sym c.as_slice.ensures.value)
    (MatchOption-at_some (Unit {0}) (λ (it : Vec ℕ Global). HaveAllMet cells c.args.rows.now.rows c.args.links.now it.items)
    c.in-Some.places c.in-Some.is c.in_ok-places.ensures))
    (λ row. c.requires.early cells row (Contains-get_or c.args.so_far.now.rows c.args.at [] c.requires.there))
    gains))
    c.push_at_places.ensures.rows

pub returns-clause-rows : goal.returns-clause-rows
returns-clause-rows c =
    let cells = get_or c.args.so_far.now.rows c.args.at [] in
    on_ok_weaker c.push_everywhere.result
    (gains_after (gained_rows c.args.join.now.kept.now c.args.so_far.now c.args.rows.now c.args.into.now)
    (gained_rows c.args.join.now.kept.now c.args.so_far.now c.args.rows.now c.begin.new.self)
    (gained_rows c.args.join.now.kept.now c.args.so_far.now c.args.rows.now c.push_everywhere.new.into)
    (IsKept c.args.join.now.kept.now (IsFollower c.args.join.now.get.now cells c.args.rows.now.rows))
    (ap (gained_rows c.args.join.now.kept.now c.args.so_far.now c.args.rows.now) c.begin.ensures))
    c.push_everywhere.ensures.rows
