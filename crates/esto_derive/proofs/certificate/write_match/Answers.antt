use Rattle.std.proofs.Common.{List, Some, ℕ, sym, subst}
use Rattle.esto_term.specs.declared.term.Term.{Term}
use Rattle.esto_semantics.specs.declared.fact.Fact.{Fact}
use Rattle.esto_chase_laws.specs.Worlds.{InWorld}
use Rattle.esto_derive.specs.Searching.{IsFound}
use Rattle.esto_derive.proofs.FinishLemmas.{head_lengths, found_some}
use Rattle.esto_derive.proofs.MatchLemmas.{head_fits}
use Rattle.esto_derive.proofs.certificate.write_match.Goals as goal

pub find-requires-clause-fits : goal.find-requires-clause-fits
find-requires-clause-fits c =
    let world = c.args.world.now in
    head_fits (InWorld world.entries.now world.set.now) c.args.query.now.head c.args.query.now.body c.args.targets.now c.requires.found

pub unreachable-requires : goal.unreachable-requires
unreachable-requires c =
    let world = c.args.world.now in
    found_some world.entries.now world.set.now c.args.query.now.head c.args.targets.now c.args.query.now.body c.requires.found c.in_ok-facts.field-0
    (subst (λ (it : List (Fact Term)). IsFound world.entries.now world.set.now c.args.query.now.head c.args.targets.now it c.in_ok-facts.field-0)
    c.items-body.ensures c.in_ok-facts.ensures)
    c.in_default.is

pub write_found-requires-clause-lengths : goal.write_found-requires-clause-lengths
write_found-requires-clause-lengths c =
    let world = c.args.world.now in
    head_lengths world.entries.now world.set.now c.args.query.now.head c.args.targets.now c.args.query.now.body c.requires.found

pub write_found-requires-clause-found : goal.write_found-requires-clause-found
write_found-requires-clause-found c =
    let world = c.args.world.now in
    subst (λ (it : List ℕ). IsFound world.entries.now world.set.now c.args.query.now.head c.args.targets.now c.args.query.now.body (Some it))
    (sym c.items.ensures)
    (subst (λ (it : List (Fact Term)). IsFound world.entries.now world.set.now c.args.query.now.head c.args.targets.now it (Some c.in-Some.facts))
    c.items-body.ensures
    (subst (IsFound world.entries.now world.set.now c.args.query.now.head c.args.targets.now c.items-body.result.now) c.in-Some.is c.in_ok-facts.ensures))
