use Rattle.std.proofs.Common.{[], get_or, sym, subst, ap}
use Rattle.std.proofs.lemmas.List.Elements.{Contains-get_or}
use Rattle.std.proofs.lemmas.Result.{on_ok_weaker}
use Rattle.esto_steps.specs.Joined.{IsFollower, IsKept}
use Rattle.esto_steps.specs.Named.{NamesCodes}
use Rattle.esto_steps.specs.Paired.{gained_rows}
use Rattle.esto_steps.proofs.NamedLemmas.{names_true, names_false}
use Rattle.esto_steps.proofs.GainLemmas.{gains_after}
use Rattle.esto_steps.proofs.IndexLemmas.{followers_found, followers_none}
use Rattle.esto_steps.proofs.join.push_joined.Goals as goal

pub returns-then-not-branch-clause-rows : goal.returns-then-not-branch-clause-rows
returns-then-not-branch-clause-rows c =
    let cells = get_or c.args.so_far.now.rows c.args.at [] in
    followers_none c.args.join.now.get.now c.args.join.now.kept.now cells c.args.rows.now.rows
    (gained_rows c.args.join.now.kept.now c.args.so_far.now c.args.rows.now c.args.into.now) c.args.sources.now c.requires.found.0
    (names_false cells c.args.sources.now c.name_codes.new.codes c.in_ok-name_codes.field-0 c.in_ok-name_codes.ensures c.if-not-branch.true)
    (λ row. c.requires.found.2 cells row (Contains-get_or c.args.so_far.now.rows c.args.at [] c.requires.there))

pub returns-clause-rows : goal.returns-clause-rows
returns-clause-rows c =
    let cells = get_or c.args.so_far.now.rows c.args.at [] in
    on_ok_weaker c.push_followers.result
    (λ gains. gains_after (gained_rows c.args.join.now.kept.now c.args.so_far.now c.args.rows.now c.args.into.now)
    (gained_rows c.args.join.now.kept.now c.args.so_far.now c.args.rows.now c.begin.new.self)
    (gained_rows c.args.join.now.kept.now c.args.so_far.now c.args.rows.now c.push_followers.new.into)
    (IsKept c.args.join.now.kept.now (IsFollower c.args.join.now.get.now cells c.args.rows.now.rows))
    (ap (gained_rows c.args.join.now.kept.now c.args.so_far.now c.args.rows.now) c.begin.ensures)
    (followers_found c.args.join.now.get.now c.args.join.now.kept.now cells c.args.rows.now.rows
    (gained_rows c.args.join.now.kept.now c.args.so_far.now c.args.rows.now c.begin.new.self)
    (gained_rows c.args.join.now.kept.now c.args.so_far.now c.args.rows.now c.push_followers.new.into) c.args.sources.now c.requires.found.0
    c.args.index.now c.items.result.now
    (subst (NamesCodes cells c.args.sources.now) (sym c.items.ensures)
    (names_true cells c.args.sources.now c.name_codes.new.codes c.in_ok-name_codes.field-0 c.in_ok-name_codes.ensures c.if-not-branch.false))
    (λ row. c.requires.found.2 cells row (Contains-get_or c.args.so_far.now.rows c.args.at [] c.requires.there))
    c.requires.found.1 gains))
    c.push_followers.ensures.rows
