use Rattle.std.proofs.Common.{◌<◌, ◌≡◌, ◌↔◌, inl, ◌∙◌, Bool, List, length, sym, ap, subst}
use Rattle.esto_constraint.specs.Constraints.{rules_of}
use Rattle.esto_bits.specs.Kept.{AreOver}
use Rattle.esto_semantics.specs.Cores.{with_head}
use Rattle.esto_query.specs.Making.{query_of}
use Rattle.esto_term.specs.Sets.{Covers}
use Rattle.esto_semantics.specs.declared.fact.Fact.{Fact}
use Rattle.esto_term.specs.declared.term.Term.{Term}
use Rattle.esto_chase_laws.specs.WorldLaws.{HasMatch}
use Rattle.esto_chase_laws.specs.WorldSteps.{AreJoined}
use Rattle.esto_chase_laws.specs.Worlds.{InWorld}
use Rattle.esto_chase_laws.specs.declared.entry.Entry.{Entry}
use Rattle.esto_constraint.proofs.RuleLemmas.{are_rules}
use Rattle.esto_contain.proofs.MinimisedLemmas.{head_length}
use Rattle.esto_contain.proofs.NumberedLemmas.{numbered_below, numbered_flat}
use Rattle.esto_contain.proofs.PartLemmas.{told_parts}
use Rattle.esto_contain.proofs.minimising.equivalent_parts.Goals as goal

pub chase_with_products-requires-clause-flat : goal.chase_with_products-requires-clause-flat
chase_with_products-requires-clause-flat c =
    numbered_flat c.args.facts.now c.in_ok-expanded.expanded (rw c.items.ensures at c.in_ok-expanded.ensures) (λ term inside. c.requires.flat term (inl inside))

pub chase_with_products-requires-clause-atoms : goal.chase_with_products-requires-clause-atoms
chase_with_products-requires-clause-atoms c fact inside =
    subst (λ count. fact.atom < count) (sym c.len.ensures)
    (numbered_below c.args.facts.now c.in_ok-expanded.expanded (rw c.items.ensures at c.in_ok-expanded.ensures) fact inside)

pub chase_with_products-requires-clause-within : goal.chase_with_products-requires-clause-within
chase_with_products-requires-clause-within c = c.catalogues_rank_their_rules.ensures.within c.args.catalogue.now

pub chase_with_products-requires-clause-ranks : goal.chase_with_products-requires-clause-ranks
chase_with_products-requires-clause-ranks c = c.catalogues_rank_their_rules.ensures.ranks c.args.catalogue.now

pub products_of_matches-requires-clause-heads : goal.products_of_matches-requires-clause-heads
products_of_matches-requires-clause-heads c =
    let maps = c.requires.universal.maps in
    ap length c.items-4.ensures ∙ head_length maps.0 c.args.query.now.head c.args.head.now maps.3

pub products_of_matches-requires-clause-joined : goal.products_of_matches-requires-clause-joined
products_of_matches-requires-clause-joined c = subst (λ it. AreJoined it it) (sym c.items-2.ensures) c.in_ok-entries.ensures.joined

-- what is handed over are the entries, the body and the targets
matched : (sets : List (List Bool)) (entries its : List Entry) (head : List Term) (body atoms : List (Fact Term)) (targets terms : List Term)
    → its ≡ entries → atoms ≡ body → terms ≡ targets → ((set : List Bool) → Covers sets set ↔ HasMatch (InWorld its set) head atoms terms)
    → (set : List Bool) → Covers sets set ↔ HasMatch (InWorld entries set) head body targets
matched sets entries its head body atoms targets terms same same_body same_targets tell set =
    subst (λ it. Covers sets set ↔ HasMatch (InWorld it set) head body targets) same
    (subst (λ it. Covers sets set ↔ HasMatch (InWorld its set) head it targets) same_body
    (subst (λ it. Covers sets set ↔ HasMatch (InWorld its set) head atoms it) same_targets (tell set)))

pub returns-clause-exact : goal.returns-clause-exact
returns-clause-exact c =
    let rules = rules_of c.args.catalogue.now.rules in
    let query = query_of c.args.query.now in
    let end = with_head c.args.head.now c.args.facts.now in
    let sets = c.in_ok-sets.sets in
    told_parts rules query end c.in_ok-expanded.expanded c.in_ok-entries.entries
    (are_rules c.rules_are_sound.ensures.rules c.args.catalogue.now.rules) (c.queries_are_sound.ensures c.args.query.now).query
    c.requires.flat c.requires.universal c.requires.satisfiable (rw c.items.ensures at c.in_ok-expanded.ensures) c.in_ok-entries.ensures.given
    c.in_ok-entries.ensures.closed c.in_ok-entries.ensures.sound c.in_ok-entries.ensures.nowhere c.in_ok-entries.ensures.derived
    c.chosen_atoms_are_named.ensures c.parts_of_an_instance_contain_the_query.ensures.contains c.matches_decide_containment.ensures.shown
    c.matches_decide_containment.ensures.found c.matches_rest_on_atoms.ensures sets.sets
    (subst (λ count. AreOver count sets.sets) (c.in_ok-sets.ensures.count ∙ c.len-2.ensures) c.products_are_antichains.ensures.over)
    c.products_are_antichains.ensures.antichain
    (matched sets.sets c.in_ok-entries.entries c.items-2.result.now query.head query.body c.items-3.result.now c.args.head.now c.items-4.result.now
    c.items-2.ensures c.items-3.ensures c.items-4.ensures c.in_ok-sets.ensures.tell)
