use Rattle.std.proofs.Common.{◌⊎◌, Bool, List, length, sym, subst}
use Rattle.std.specs.Prelude.{slice_index}
use Rattle.esto_constraint.specs.Constraints.{rules_of}
use Rattle.esto_constraint.proofs.RankLemmas.{rules-AreRules, ranks-RanksRise}
use Rattle.esto_chase_laws.specs.WorldLaws.{IsSound, IsReceivedNowhere, IsDatabase, AreNestedWithin}
use Rattle.esto_chase_laws.specs.WorldSteps.{AreJoined}
use Rattle.esto_chase_laws.specs.Worlds.{InWorld, IsClosed, IsBroken, IsDenied}
use Rattle.esto_condchase.proofs.chase.chase_with_products.Goals as goal

pub from_list-requires : goal.from_list-requires
from_list-requires c =
    c.derived_entries_are_reasoned.ensures c.args.facts.now (rules_of c.args.rules.now) c.in_ok-entries.entries c.args.atoms c.in_ok-entries.ensures.derived
    c.in_ok-entries.ensures.counted

pub returns-clause-closed : goal.returns-clause-closed
returns-clause-closed c =
    let rules = rules_of c.args.rules.now in
    subst (λ it. (set : List Bool) → IsClosed rules (InWorld it set)) (sym c.from_list.ensures)
    (c.complete_entries_are_closed.ensures rules c.in_ok-entries.entries (rules-AreRules c.args.rules.now c.rules_are_sound.ensures.rules)
    c.in_ok-entries.ensures.answered c.in_ok-entries.ensures.joined)

pub returns-clause-sound : goal.returns-clause-sound
returns-clause-sound c =
    let rules = rules_of c.args.rules.now in
    subst (λ it. (set : List Bool) → IsSound c.args.facts.now rules it set) (sym c.from_list.ensures)
    (c.derived_entries_are_sound.ensures.sound c.args.facts.now rules c.in_ok-entries.entries
    (rules-AreRules c.args.rules.now c.rules_are_sound.ensures.rules) c.requires.flat c.in_ok-entries.ensures.derived)

pub returns-clause-database : goal.returns-clause-database
returns-clause-database c =
    let rules = rules_of c.args.rules.now in
    let are_rules = rules-AreRules c.args.rules.now c.rules_are_sound.ensures.rules in
    subst (λ it. (set : List Bool) → ¬ (IsBroken (InWorld it set)) → ¬ (IsDenied rules (InWorld it set)) → IsDatabase rules (InWorld it set))
    (sym c.from_list.ensures)
    (λ set. c.closed_worlds_are_databases.ensures rules c.in_ok-entries.entries set are_rules
    (c.complete_entries_are_closed.ensures rules c.in_ok-entries.entries are_rules c.in_ok-entries.ensures.answered c.in_ok-entries.ensures.joined set))

pub returns-clause-nowhere : goal.returns-clause-nowhere
returns-clause-nowhere c =
    let rules = rules_of c.args.rules.now in
    subst (λ it. (set : List Bool) → IsBroken (InWorld it set) ⊎ IsDenied rules (InWorld it set) → IsReceivedNowhere c.args.facts.now rules set)
    (sym c.from_list.ensures)
    (c.derived_entries_are_sound.ensures.nowhere c.args.facts.now rules c.in_ok-entries.entries
    (rules-AreRules c.args.rules.now c.rules_are_sound.ensures.rules) c.requires.flat c.in_ok-entries.ensures.derived)

pub returns-clause-bounded : goal.returns-clause-bounded
returns-clause-bounded c =
    let rules = rules_of c.args.rules.now in
    let ranks = c.args.ranks.now in
    subst (AreNestedWithin (slice_index ranks)) (sym c.from_list.ensures)
    (c.derived_entries_are_bounded.ensures.nested c.args.facts.now rules c.in_ok-entries.entries (slice_index ranks)
    (rules-AreRules c.args.rules.now c.rules_are_sound.ensures.rules) c.requires.flat
    (ranks-RanksRise rules ranks (c.ranks_rise.ensures.rise rules (length ranks) ranks c.requires.within c.requires.ranks)) c.in_ok-entries.ensures.derived)

pub returns-clause-joined : goal.returns-clause-joined
returns-clause-joined c = subst (λ it. AreJoined it it) (sym c.from_list.ensures) c.in_ok-entries.ensures.joined
