-- A set of an instance's facts is equivalent to a query exactly where its world has a match of the query, head to head with the instance's head.
use Rattle.std.proofs.Common.{◌≡◌, ◌⊎◌, ◌↔◌, inl, inr, Bool, List, length, Some, Contains, refl, sym, ap, subst, ◌∙◌}
use Rattle.esto_term.specs.declared.term.Term.{Term}
use Rattle.esto_semantics.specs.Containment.{IsSatisfiable}
use Rattle.esto_semantics.specs.ContainmentLaws.{PartContains}
use Rattle.esto_semantics.specs.Expansions.{IsOfQuery}
use Rattle.esto_semantics.specs.Instances.{IsUniversalFor}
use Rattle.esto_semantics.specs.Listed.{candidate, IsEquivalentPart}
use Rattle.esto_semantics.specs.ListedLaws.{ChosenAreNamed}
use Rattle.esto_semantics.specs.Maps.{IsFlat}
use Rattle.esto_semantics.specs.Queries.{ConjunctiveQuery, IsQuery}
use Rattle.esto_semantics.specs.Rules.{Rule, AreRules}
use Rattle.esto_term.specs.Sets.{Covers, IsMinimal}
use Rattle.esto_bits.specs.Kept.{AreOver, IsAntichain}
use Rattle.esto_bits.proofs.FamilyLemmas.{antichain_is_minimal}
use Rattle.esto_semantics.specs.declared.expanded.ExpandedFact.{ExpandedFact}
use Rattle.esto_chase_laws.specs.Derived.{AreDerived}
use Rattle.esto_chase_laws.specs.WorldLaws.{AreFactsOf, AreGiven, HasGivenHead, HasMatch, IsReceivedNowhere, IsSound, RestsOn}
use Rattle.esto_chase_laws.specs.WorldLaws.{ContainmentShowsMatches, MatchesRestOnAtoms, MatchesShowContainment}
use Rattle.esto_chase_laws.specs.Worlds.{InWorld, IsBroken, IsClosed, IsDenied}
use Rattle.esto_chase_laws.specs.declared.entry.Claim.{Claim}
use Rattle.esto_chase_laws.specs.declared.entry.Entry.{Entry}
use Rattle.esto_contain.specs.Numbered.{AreNumbered}

module _ (rules : List Rule) (query instance : ConjunctiveQuery) (expanded : List ExpandedFact) (entries : List Entry) (are_rules : AreRules rules)
    (is_query : IsQuery query) (flat : (term : Term) → IsOfQuery instance term → IsFlat term) (universal : IsUniversalFor rules query instance)
    (satisfiable : IsSatisfiable rules query) (numbered : AreNumbered instance.body expanded) (given : AreGiven expanded entries)
    (closed : (set : List Bool) → IsClosed rules (InWorld entries set)) (sound : (set : List Bool) → IsSound expanded rules entries set)
    (nowhere : (set : List Bool) → IsBroken (InWorld entries set) ⊎ IsDenied rules (InWorld entries set) → IsReceivedNowhere expanded rules set)
    (derived : AreDerived expanded rules entries) (named : ChosenAreNamed) (contains : PartContains) (shown : MatchesShowContainment)
    (found : ContainmentShowsMatches) (rest : MatchesRestOnAtoms) where
  module _ (set : List Bool) (over : length set ≡ length instance.body) where
    abbrev Holds : Claim → Type 0
    Holds = InWorld entries set

    abbrev Matched : Type 0
    Matched = HasMatch Holds query.head query.body instance.head

    part_facts : AreFactsOf expanded set (candidate instance set).body
    part_facts fact = (
      λ inside.
          let chosen = (named set instance.body fact).0 inside in
          let whole : ExpandedFact = record { atom = chosen.0; place = 0; fact = fact } in
          (whole, (numbered whole).1 (refl, chosen.2), chosen.1, refl),
      λ (part, there, has, is). (named set instance.body fact).1 (part.atom, has, ((numbered part).0 there).1 ∙ ap Some is),
    )

    given_head : HasGivenHead (candidate instance set)
    given_head term inside = inl (flat term (inr inside))

    rests : Matched → RestsOn expanded (Contains instance.head) set
    rests matched = rest expanded rules entries set query instance.head are_rules derived is_query matched

    to_part : Matched → IsEquivalentPart rules query instance set
    to_part matched = record {
      has_candidate = record { over = over; some = (rests matched).some };
      safe = λ term inside. elim (flat term (inr inside)) [
        | inl constant ↦ inl constant
        | inr (variable, is) ↦ (let at = (rests matched).variables variable (subst (Contains instance.head) is inside) in
            inr (at.0.fact, (part_facts at.0.fact).1 (at.0, at.1, at.2, refl), subst (Contains at.0.fact.terms) (sym is) at.3))
      ];
      equivalent = (
        shown expanded rules entries set (candidate instance set) query part_facts given_head (sound set) matched,
        contains rules query instance set universal,
      );
    }

    from_part : IsEquivalentPart rules query instance set → Matched
    from_part is =
        let (database, meets, (row, answer)) = satisfiable in
        let own = is.equivalent.1 database meets row answer in
        let received : (IsBroken Holds ⊎ IsDenied rules Holds) → ⊥ =
        (λ which. nowhere set which (candidate instance set).body part_facts database meets own.0 own.1 own.2) in
        found expanded rules entries set (candidate instance set) query are_rules part_facts given_head given (sound set) (closed set)
        (λ broken. received (inl broken)) (λ denied. received (inr denied)) is.equivalent.0

    pub matched_tells : Matched ↔ IsEquivalentPart rules query instance set
    matched_tells = (to_part, from_part)

  -- an antichain that tells where there is a match has the minimal sets that are equivalent
  pub told_parts : (sets : List (List Bool)) → AreOver (length instance.body) sets → IsAntichain sets
      → ((set : List Bool) → Covers sets set ↔ HasMatch (InWorld entries set) query.head query.body instance.head)
      → (set : List Bool) → Contains sets set ↔ IsMinimal (IsEquivalentPart rules query instance) set
  told_parts sets over antichain tell set =
      antichain_is_minimal (length instance.body) (IsEquivalentPart rules query instance) (λ it is. is.has_candidate.over) sets over
      (λ it own.
      let tells = matched_tells it own in
      (λ covers. tells.0 ((tell it).0 covers), λ is. (tell it).1 (tells.1 is)))
      antichain set
