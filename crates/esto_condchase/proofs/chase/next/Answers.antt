use Rattle.std.proofs.Common.{◌++◌, Contains, sym, subst}
use Rattle.std.proofs.lemmas.Result.{on_ok_weaker}
use Rattle.esto_constraint.specs.Constraints.{rules_of}
use Rattle.esto_chase_laws.specs.WorldSteps.{IsCovered}
use Rattle.esto_chase_laws.specs.Worlds.{InWorld}
use Rattle.esto_chase_laws.specs.declared.entry.Claim.TheVariants.{Same}
use Rattle.esto_chase_laws.specs.declared.entry.Entry.{Entry}
use Rattle.esto_condchase.proofs.AskLemmas.{asked_follows_on}
use Rattle.esto_known.proofs.CoverLemmas.{covered_grown}
use Rattle.esto_condchase.proofs.chase.next.Goals as goal

pub add_all-requires-clause-asked : goal.add_all-requires-clause-asked
add_all-requires-clause-asked c entry inside =
    (asked_follows_on (rules_of c.args.rules.now) c.args.count c.args.entries.now c.in_ok-asked.asked c.in_ok-asked.ensures.grows entry
    (subst (λ it. Contains it entry) c.items.ensures inside)).counted

pub returns-clause-grown : goal.returns-clause-grown
returns-clause-grown c =
    let follow = λ (entry : Entry) (inside : Contains c.items.result.now entry).
    asked_follows_on (rules_of c.args.rules.now) c.args.count c.args.entries.now c.in_ok-asked.asked c.in_ok-asked.ensures.grows entry
    (subst (λ it. Contains it entry) c.items.ensures inside) in
    on_ok_weaker c.add_all.result (λ grown. (c.items.result.now, grown (rules_of c.args.rules.now) follow)) c.add_all.ensures.grown

pub returns-clause-answered : goal.returns-clause-answered
returns-clause-answered c =
    let follow = λ (entry : Entry) (inside : Contains c.items.result.now entry).
    asked_follows_on (rules_of c.args.rules.now) c.args.count c.args.entries.now c.in_ok-asked.asked c.in_ok-asked.ensures.grows entry
    (subst (λ it. Contains it entry) c.items.ensures inside) in
    on_ok_weaker c.add_all.result
    (λ grown atoms number rule at chosen matches claim asks. covered_grown (rules_of c.args.rules.now) c.args.entries.now c.items.result.now
    c.add_all.new.entries (grown (rules_of c.args.rules.now) follow) atoms claim
    (subst (λ it. IsCovered (InWorld (c.args.entries.now ++ it) atoms) claim) (sym c.items.ensures)
    (c.in_ok-asked.ensures.answered atoms number rule at chosen matches claim asks))) c.add_all.ensures.grown

pub returns-clause-joined : goal.returns-clause-joined
returns-clause-joined c =
    let follow = λ (entry : Entry) (inside : Contains c.items.result.now entry).
    asked_follows_on (rules_of c.args.rules.now) c.args.count c.args.entries.now c.in_ok-asked.asked c.in_ok-asked.ensures.grows entry
    (subst (λ it. Contains it entry) c.items.ensures inside) in
    on_ok_weaker c.add_all.result
    (λ grown atoms term next other one two. covered_grown (rules_of c.args.rules.now) c.args.entries.now c.items.result.now
    c.add_all.new.entries (grown (rules_of c.args.rules.now) follow) atoms (Same term other)
    (subst (λ it. IsCovered (InWorld (c.args.entries.now ++ it) atoms) (Same term other)) (sym c.items.ensures)
    (c.in_ok-asked.ensures.joined atoms term next other one two))) c.add_all.ensures.grown
