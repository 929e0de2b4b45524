-- The match of a world that is found, and the entries that it uses.
use Rattle.std.proofs.Common.{◌≡◌, ◌≢◌, inl, inr, ℕ, ◌<◌, List, [], ◌++◌, length, map, slice_get, Option, Some, None, Contains, Bool, subst, refl, sym, ap, ◌∙◌}
use Rattle.std.proofs.lemmas.List.{length-map}
use Rattle.std.proofs.lemmas.Option.{same_Some, slice_get_within}
use Rattle.esto_term.specs.declared.term.Term.{Term}
use Rattle.esto_term.proofs.ZipLemmas.{zip_left, zip_length, zip_weaker}
use Rattle.esto_semantics.specs.Facts.{terms_of}
use Rattle.esto_semantics.specs.Maps.{IsFixedBy}
use Rattle.esto_term.specs.Sets.{Within}
use Rattle.esto_semantics.specs.declared.fact.Fact.{Fact}
use Rattle.esto_chase_laws.specs.Derived.{Claims, IsNamed, AreDerived}
use Rattle.esto_chase_laws.specs.WorldLaws.{HasMatch}
use Rattle.esto_chase_laws.specs.WorldMatches.{Fits}
use Rattle.esto_chase_laws.specs.Worlds.{InWorld, Linked}
use Rattle.esto_chase_laws.specs.declared.entry.Claim.TheVariants.{Fact as Stated}
use Rattle.esto_chase_laws.specs.declared.entry.Entry.{Entry}
use Rattle.esto_cert.specs.Certificates.{Case}
use Rattle.esto_derive.specs.Marking.{AreUsed, AreUsedWithin}
use Rattle.esto_derive.specs.Searching.{ClaimsIn, IsFound, AreLinks}
use Rattle.esto_derive.specs.Writing.{IsBasis, IsMatchAt, IsWritten, WritesMatch, terms_at}
use Rattle.esto_constraint.specs.Constraints.{rules_of}
use Rattle.esto_constraint.specs.declared.rule.Constraint.{Constraint}
use Rattle.esto_semantics.specs.declared.expanded.ExpandedFact.{ExpandedFact}
use Rattle.esto_derive.proofs.LoopLemmas.{terms_stated}
use Rattle.esto_derive.proofs.MatchLemmas.{match_at, some_go_on}
use Rattle.esto_derive.proofs.WriteLemmas.{AreThere}

-- what is claimed in a world is of an entry within the set
claims_within : (entries : List Entry) (set : List Bool) (place : ℕ) (entry : Entry) → slice_get entries place ≡ Some entry
    → (its : Entry) → slice_get entries place ≡ Some its → Within its.product set → Within entry.product set
claims_within entries set place entry at its its_at within = subst (λ (it : Entry). Within it.product set) (same_Some its entry (sym its_at ∙ at)) within

module _ (entries : List Entry) (set : List Bool) (head targets : List Term) (body : List (Fact Term)) where
  pub head_lengths : HasMatch (InWorld entries set) head body targets → length targets ≡ length head
  head_lengths match = zip_length (Linked (InWorld entries set)) targets (map match.0 head) match.3 ∙ length-map head match.0

  pub found_some : HasMatch (InWorld entries set) head body targets → (found : Option (List ℕ)) → IsFound entries set head targets body found → found ≡ None → ⊥
  found_some match found is none =
      let goes = some_go_on (InWorld entries set) head body targets match in
      subst (IsFound entries set head targets body) none is goes.0 goes.1

  module _ (facts : List ℕ) (found : IsFound entries set head targets body (Some facts)) where
    pub facts_there : AreThere entries facts
    facts_there place inside =
        let its = zip_left (λ (place : ℕ) (fact : Fact Term). ClaimsIn entries set place (Stated fact)) facts found.0 found.1 place inside in
        slice_get_within entries place its.2.0 its.2.1

    facts_within : (place : ℕ) (entry : Entry) → Contains facts place → slice_get entries place ≡ Some entry → Within entry.product set
    facts_within place entry inside at =
        let its = zip_left (λ (place : ℕ) (fact : Fact Term). ClaimsIn entries set place (Stated fact)) facts found.0 found.1 place inside in
        claims_within entries set place entry at its.2.0 its.2.1 its.2.2

    pub terms_found : terms_at entries facts ≡ terms_of found.0
    terms_found = terms_stated entries facts found.0
        (zip_weaker (λ (place : ℕ) (fact : Fact Term). ClaimsIn entries set place (Stated fact))
        (λ (place : ℕ) (fact : Fact Term). Claims entries place (Stated fact)) facts found.0
        (λ place fact inside its. (its.0, its.1, its.3)) found.1)

    pub fits_found : (from to : List Term) → from ≡ head ++ terms_of body → to ≡ targets ++ terms_at entries facts
        → Fits (Linked (InWorld entries set)) from to
    fits_found from to from_is to_is =
        subst (λ (it : List Term). Fits (Linked (InWorld entries set)) it to) (sym from_is)
        (subst (λ (it : List Term). Fits (Linked (InWorld entries set)) (head ++ terms_of body) it)
        (sym (to_is ∙ ap (λ (it : List Term). targets ++ it) terms_found)) found.2.1)

    module _ (links : List ℕ) (are : AreLinks entries set links) where
      pub links_there : (place : ℕ) → Contains links place → place < length entries
      links_there place inside = let its = are place inside in slice_get_within entries place its.0 its.1

      links_within : (place : ℕ) (entry : Entry) → Contains links place → slice_get entries place ≡ Some entry → Within entry.product set
      links_within place entry inside at = let its = are place inside in claims_within entries set place entry at its.0 its.1 its.2.2

      pub basis : (case : Case) → case.set ≡ set → AreDerived case.expanded case.rules entries → (used : List Bool) → AreUsed entries facts links used
          → IsBasis case entries used
      basis case set_is derived used is = record {
        derived = derived;
        closed = is.closed;
        within = subst (λ (it : List Bool). AreUsedWithin entries it used) (sym set_is) (is.within set (λ place entry either at. elim either [
          | inl inside ↦ facts_within place entry inside at
          | inr inside ↦ links_within place entry inside at
        ]));
      }

      pub match_found : (from to : List Term) → from ≡ head ++ terms_of body → to ≡ targets ++ terms_at entries facts
          → Fits (Linked (IsNamed entries links)) from to → length targets ≡ length head → ((term : Term) → Contains head term → IsFixedBy body term)
          → IsMatchAt entries head targets body facts links
      match_found from to from_is to_is fits lengths safe =
          match_at entries set head body found.0 targets facts links found.1 found.2 lengths are
          (subst (λ (it : List Term). Fits (Linked (IsNamed entries links)) it (targets ++ terms_of found.0)) from_is
          (subst (λ (it : List Term). Fits (Linked (IsNamed entries links)) from it) (to_is ∙ ap (λ (it : List Term). targets ++ it) terms_found) fits)) safe

      -- what is written of such a match is a certificate
      pub finished : (rules : List Constraint) (used : List Bool) → AreUsed entries facts links used → (bytes : List ℕ)
          → WritesMatch rules entries used facts links bytes → (from to : List Term) → from ≡ head ++ terms_of body → to ≡ targets ++ terms_at entries facts
          → Fits (Linked (IsNamed entries links)) from to → length targets ≡ length head → body ≢ []
          → ((term : Term) → Contains head term → IsFixedBy body term) → (expanded : List ExpandedFact) → AreDerived expanded (rules_of rules) entries
          → IsWritten (record {
            expanded = expanded;
            set = set;
            rules = rules_of rules;
            query = record { head = head; body = body };
            targets = targets;
          }) entries bytes
      finished rules used is bytes writes from to from_is to_is fits lengths some safe expanded derived =
          writes _ refl (basis _ refl derived used is) some is (match_found from to from_is to_is fits lengths safe)
