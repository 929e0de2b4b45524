use Rattle.std.proofs.Common.{List, ℕ, Contains, ◌++◌, refl, subst, ap}
use Rattle.std.proofs.lemmas.Result.{IfOk-weaker}
use Rattle.esto_constraint.specs.Constraints.{rules_of}
use Rattle.esto_term.specs.declared.term.Term.{Term}
use Rattle.esto_semantics.specs.Facts.{terms_of}
use Rattle.esto_semantics.specs.declared.fact.Fact.{Fact}
use Rattle.esto_derive.specs.Marking.{AreUsed}
use Rattle.esto_derive.specs.Writing.{terms_at, WritesMatch}
use Rattle.esto_derive.proofs.FinishLemmas.{facts_there, fits_found, links_there, finished}
use Rattle.esto_derive.proofs.certificate.write_found.Goals as goal

pub links_for-requires-clause-there : goal.links_for-requires-clause-there
links_for-requires-clause-there c =
    let world = c.args.world.now in
    facts_there world.entries.now world.set.now c.args.query.now.head c.args.targets.now c.args.query.now.body c.args.facts.now c.requires.found

pub links_for-requires-clause-fits : goal.links_for-requires-clause-fits
links_for-requires-clause-fits c =
    let world = c.args.world.now in
    fits_found world.entries.now world.set.now c.args.query.now.head c.args.targets.now c.args.query.now.body c.args.facts.now c.requires.found
    (c.args.query.now.head ++ terms_of c.items-body.result.now) (c.args.targets.now ++ terms_at world.entries.now c.args.facts.now)
    (ap (λ (it : List (Fact Term)). c.args.query.now.head ++ terms_of it) c.items-body.ensures) refl

pub write_by-requires-clause-reasoned : goal.write_by-requires-clause-reasoned
write_by-requires-clause-reasoned c =
    c.derived_entries_are_reasoned.ensures c.requires.derived.0 (rules_of c.args.rules.now) c.args.world.now.entries.now _ c.requires.derived.1
    c.requires.counts

pub write_by-requires-clause-facts : goal.write_by-requires-clause-facts
write_by-requires-clause-facts c =
    let world = c.args.world.now in
    facts_there world.entries.now world.set.now c.args.query.now.head c.args.targets.now c.args.query.now.body c.args.facts.now c.requires.found

pub write_by-requires-clause-links : goal.write_by-requires-clause-links
write_by-requires-clause-links c = λ place inside.
    let world = c.args.world.now in
    links_there world.entries.now world.set.now c.args.query.now.head c.args.targets.now c.args.query.now.body c.args.facts.now c.requires.found
    c.in_ok-links.links c.in_ok-links.ensures.are place (subst (λ (it : List ℕ). Contains it place) c.items.ensures inside)

pub returns : goal.returns
returns c =
    let world = c.args.world.now in
    let sound = (c.queries_are_sound.ensures c.args.query.now).query in
    IfOk-weaker c.write_by.result _ _
    (λ bytes (used, are, writes) expanded derived.
    finished world.entries.now world.set.now c.args.query.now.head c.args.targets.now c.args.query.now.body c.args.facts.now c.requires.found
    c.in_ok-links.links c.in_ok-links.ensures.are c.args.rules.now used
    (subst (λ (it : List ℕ). AreUsed world.entries.now c.args.facts.now it used) c.items.ensures are) bytes
    (subst (λ (it : List ℕ). WritesMatch c.args.rules.now world.entries.now used c.args.facts.now it bytes) c.items.ensures writes)
    (c.args.query.now.head ++ terms_of c.items-body.result.now) (c.args.targets.now ++ terms_at world.entries.now c.args.facts.now)
    (ap (λ (it : List (Fact Term)). c.args.query.now.head ++ terms_of it) c.items-body.ensures) refl c.in_ok-links.ensures.fits
    c.requires.lengths sound.has_body sound.safe expanded derived)
    c.write_by.ensures
