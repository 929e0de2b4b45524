-- The derivations of derived entries derive their claims.
use Rattle.std.proofs.Common.{◌≡◌, ◌≢◌, ◌<◌, zero, suc, ℕ, List, [], ◌∷◌, ◌++◌, map, length, take, slice_get, Contains, Some, refl, sym, ap, ◌∙◌, subst, inl}
use Rattle.std.proofs.Common.{inr}
use Rattle.std.specs.List.{AllZip}
use Rattle.esto_term.specs.declared.term.Term.{Term}
use Rattle.esto_term.proofs.ListLemmas.{Contains-head, Contains-rest, thing_at}
use Rattle.esto_term.proofs.PlaceLemmas.{taken_at}
use Rattle.esto_term.proofs.ZipLemmas.{zip_left, zip_length, zip_right, zip_weaker}
use Rattle.esto_semantics.specs.Facts.{terms_of}
use Rattle.esto_semantics.specs.Rules.{Rule, body_of}
use Rattle.esto_semantics.specs.declared.fact.Fact.{Fact}
use Rattle.esto_semantics.specs.declared.expanded.ExpandedFact.{ExpandedFact}
use Rattle.esto_chase_laws.specs.Derived.{AreDerived, Claims, Follows, FollowsBy, IsChain, IsNamed}
use Rattle.esto_chase_laws.specs.WorldMatches.{taken}
use Rattle.esto_chase_laws.specs.Worlds.{Linked}
use Rattle.esto_chase_laws.specs.declared.entry.Claim.{Claim}
use Rattle.esto_chase_laws.specs.declared.entry.Claim.TheVariants as claim
use Rattle.esto_chase_laws.specs.declared.entry.Entry.{Entry}
use Rattle.esto_chase_laws.specs.declared.entry.Reason.{Reason}
use Rattle.esto_chase_laws.specs.declared.entry.Reason.TheVariants as reason
use Rattle.esto_chase_laws.proofs.LinkLemmas.{Linked-more}
use Rattle.esto_prov.specs.Derivations.{AreChain, Derives, DerivationsDerive, FollowsFrom, HasReason, IsWhy}
use Rattle.esto_prov.specs.Derivations.Derives.{given, by_rule, by_chain}
use Rattle.esto_prov.specs.Derivations.IsWhy.{expanded, step, same}
use Rattle.esto_prov.specs.declared.why.Why.{Why}
use Rattle.esto_prov.specs.declared.why.Why.TheVariants.{Expanded, Same}

-- ---- the claims at places

module _ (entries : List Entry) where
  abbrev ClaimsAt : List ℕ → List Claim → Type 0
  ClaimsAt places claims = AllZip (Claims entries) places claims

  claims_at : (places : List ℕ) → ((place : ℕ) → Contains places place → place < length entries) → (claims : List Claim) × ClaimsAt places claims
  claims_at [] there = ([], tt)
  claims_at (place ∷ places) there =
      let entry = thing_at entries place (there place (Contains-head place places)) in
      let more = claims_at places (λ other inside. there other (Contains-rest place places other inside)) in
      (entry.0.claim ∷ more.0, ((entry.0, entry.1, refl), more.1))

  one_claim : (place : ℕ) (one other : Claim) → Claims entries place one → Claims entries place other → one ≡ other
  one_claim place one other (entry, at, is) (its, its_at, its_is) =
      let both : Some entry ≡ Some its = sym at ∙ its_at in
      let same_entry : entry ≡ its = cc in
      sym is ∙ ap (λ (it : Entry). it.claim) same_entry ∙ its_is

  -- the claim at a part
  at_part : (places : List ℕ) (claims : List Claim) → ClaimsAt places claims → (part : ℕ) (its : Claim) → slice_get claims part ≡ Some its
      → (place : ℕ) × (slice_get places part ≡ Some place) × Claims entries place its
  at_part [] [] zips part its at = absurd (cc)
  at_part [] (first ∷ claims) zips part its at = absurd zips
  at_part (place ∷ places) [] zips part its at = absurd zips
  at_part (place ∷ places) (first ∷ claims) zips zero its at =
      let same_claim : first ≡ its = cc in
      (place, refl, subst (Claims entries place) same_claim zips.0)
  at_part (place ∷ places) (first ∷ claims) zips (suc part) its at = at_part places claims zips.1 part its at

  -- the claims are those of the facts and those of the links
  facts_first : (facts links places : List ℕ) (chosen : List (Fact Term)) (claims : List Claim) → places ≡ facts ++ links
      → AllZip (λ (place : ℕ) (fact : Fact Term). Claims entries place (claim.Fact fact)) facts chosen → ClaimsAt (facts ++ links) claims
      → (rest : List Claim) × (claims ≡ map claim.Fact chosen ++ rest) × ClaimsAt links rest
  facts_first [] links places [] claims is stated zips = (claims, refl, zips)
  facts_first [] links places (fact ∷ chosen) claims is stated zips = absurd stated
  facts_first (place ∷ facts) links places [] claims is stated zips = absurd stated
  facts_first (place ∷ facts) links places (fact ∷ chosen) [] is stated zips = absurd zips
  facts_first (place ∷ facts) links places (fact ∷ chosen) (first ∷ claims) is stated zips =
      let more = facts_first facts links (facts ++ links) chosen claims refl stated.1 zips.1 in
      let same_claim = one_claim place first (claim.Fact fact) zips.0 stated.0 in
      (more.0, (λ i. same_claim i ∷ more.1 i), more.2)

  named_claim : (places : List ℕ) (claims : List Claim) → ClaimsAt places claims → (its : Claim) → IsNamed entries places its → Contains claims its
  named_claim places claims zips its (place, inside, says) =
      let found = zip_left (Claims entries) places claims zips place inside in
      subst (Contains claims) (one_claim place found.0 its found.2 says) found.1

  follows_from : (number : ℕ) (rule : Rule) (places : List ℕ) (claims : List Claim) (its : Claim) → ClaimsAt places claims
      → FollowsBy entries number rule places its → FollowsFrom number rule claims its
  follows_from number rule places claims its zips by =
      let rest = facts_first by.facts by.links places by.chosen claims by.in_order by.stated (subst (λ it. ClaimsAt it claims) by.in_order zips) in
      record {
        chosen = by.chosen;
        links = rest.0;
        in_order = rest.1;
        equalities = λ link inside.
            let found = zip_right (Claims entries) by.links rest.0 rest.2 link inside in
            let (left, right, says) = by.equalities found.0 found.1 in
            (left, right, one_claim found.0 link (claim.Same left right) found.2 says);
        matches = (
          zip_weaker (λ (atom : Fact Term) (fact : Fact Term).
              IsNamed entries places (claim.Fact fact) × (fact.relation ≡ atom.relation) × (length fact.terms ≡ length atom.terms))
              (λ (atom : Fact Term) (fact : Fact Term).
              Contains claims (claim.Fact fact) × (fact.relation ≡ atom.relation) × (length fact.terms ≡ length atom.terms))
              (body_of rule) by.chosen
              (λ atom fact inside is. (named_claim places claims zips (claim.Fact fact) is.0, is.1, is.2)) by.matches.0,
          zip_weaker (Linked (IsNamed entries places)) (Linked (Contains claims)) (terms_of by.chosen)
              (map (taken (terms_of (body_of rule)) (terms_of by.chosen)) (terms_of (body_of rule)))
              (λ term other inside linked. Linked-more (named_claim places claims zips) term other linked) by.matches.1,
        );
        asked = by.asked;
      }

  chain_from : (places : List ℕ) (claims : List Claim) (term other : Term) → ClaimsAt places claims → IsChain entries places term other
      → AreChain claims term other
  chain_from [] [] term other zips is = is
  chain_from [] (first ∷ claims) term other zips is = absurd zips
  chain_from (place ∷ places) [] term other zips is = absurd zips
  chain_from (place ∷ places) (first ∷ claims) term other zips (next, inl says, rest) =
      (next, inl (one_claim place first (claim.Same term next) zips.0 says), chain_from places claims next other zips.1 rest)
  chain_from (place ∷ places) (first ∷ claims) term other zips (next, inr says, rest) =
      (next, inr (one_claim place first (claim.Same next term) zips.0 says), chain_from places claims next other zips.1 rest)

  some_claims : (places : List ℕ) (claims : List Claim) → places ≢ [] → ClaimsAt places claims → claims ≢ []
  some_claims [] claims some zips none = some refl
  some_claims (place ∷ places) [] some zips none = absurd zips
  some_claims (place ∷ places) (first ∷ claims) some zips none = cc

-- ---- entries

module _ (expansion : List ExpandedFact) (rules : List Rule) (entries : List Entry) (derived : AreDerived expansion rules entries) where
  follows_by : (at : ℕ) (entry : Entry) (its : Reason) → slice_get entries at ≡ Some entry → HasReason entries at its
      → Follows expansion rules (take at entries) entry.claim entry.product its
  follows_by at entry its there (other, there_other, is) =
      let both : Some other ≡ Some entry = sym there_other ∙ there in
      let same_entry : other ≡ entry = cc in
      subst (Follows expansion rules (take at entries) entry.claim entry.product) (ap (λ (it : Entry). it.reason) (sym same_entry) ∙ is)
      (derived at entry there)

  pub derive : (at : ℕ) (why : Why) → IsWhy entries at why → (entry : Entry) → slice_get entries at ≡ Some entry → Derives expansion rules why entry.claim
  derive at why (expanded own atom place its_reason) entry there =
      let (fact, inside, is_atom, is_place, is, has) = follows_by at entry (reason.Expanded atom place) there its_reason in
      subst (Derives expansion rules (Expanded atom place)) (sym is)
      (subst (λ it. Derives expansion rules (Expanded atom it) (claim.Fact fact.fact)) is_place
      (subst (λ it. Derives expansion rules (Expanded it fact.place) (claim.Fact fact.fact)) is_atom (given fact inside)))
  derive at why (step own number places whys its_reason as_many each) entry there =
      let (rule, rule_at, by, union) = follows_by at entry (reason.Step number places) there its_reason in
      let claims = claims_at (take at entries) places union.there in
      by_rule number rule whys claims.0 entry.claim rule_at (sym (zip_length (Claims (take at entries)) places claims.0 claims.1) ∙ sym as_many)
      (λ part its part_claim at_why at_claim.
      let place = at_part (take at entries) places claims.0 claims.1 part part_claim at_claim in
      let (its_entry, its_at, says) = place.2 in
      subst (Derives expansion rules its) says
      (derive place.0 its (each part place.0 its place.1 at_why) its_entry (taken_at entries at place.0 its_entry its_at)))
      (follows_from (take at entries) number rule places claims.0 entry.claim claims.1 by)
  derive at why (same own places whys its_reason as_many each) entry there =
      let (some, term, other, is, chain, union) = follows_by at entry (reason.Equal places) there its_reason in
      let claims = claims_at (take at entries) places union.there in
      subst (Derives expansion rules (Same whys)) (sym is)
      (by_chain whys claims.0 term other (some_claims (take at entries) places claims.0 some claims.1)
      (sym (zip_length (Claims (take at entries)) places claims.0 claims.1) ∙ sym as_many)
      (λ part its part_claim at_why at_claim.
      let place = at_part (take at entries) places claims.0 claims.1 part part_claim at_claim in
      let (its_entry, its_at, says) = place.2 in
      subst (Derives expansion rules its) says
      (derive place.0 its (each part place.0 its place.1 at_why) its_entry (taken_at entries at place.0 its_entry its_at)))
      (chain_from (take at entries) places claims.0 term other claims.1 chain))

pub derivations : DerivationsDerive
derivations expansion rules entries derived at why entry is_why there = derive expansion rules entries derived at why is_why entry there
