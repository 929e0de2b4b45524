-- Entries that rest on a set alone: what follows from them is one more of them.
use Rattle.std.proofs.Common.{◌≡◌, ◌↔◌, inl, inr, zero, suc, ℕ, ◌==◌, ◌-◌, Bool, true, false, cond, List, [], ◌∷◌, ◌++◌, slice_get, option_map, Option}
use Rattle.std.proofs.Common.{Some, None, Contains, refl, sym, ap, subst, arith}
use Rattle.std.specs.List.{AllZip}
use Rattle.std.proofs.lemmas.Bool.{false≢true}
use Rattle.std.proofs.lemmas.List.Elements.{Contains-append_left, Contains-append_right, Contains-append_cases, Contains-push, Contains-push_cases}
use Rattle.std.proofs.lemmas.Option.{slice_get_within}
use Rattle.esto_term.specs.declared.term.Term.{Term}
use Rattle.esto_term.proofs.ListLemmas.{Contains-at, Contains-cases, Contains-head, Contains-nil, Contains-rest, place-from_Contains}
use Rattle.esto_term.proofs.ZipLemmas.{zip_left, zip_right, zip_weaker}
use Rattle.esto_semantics.specs.Facts.{image}
use Rattle.esto_semantics.specs.Rules.{Rule, tuple, equality, denial, body_of}
use Rattle.esto_term.specs.Sets.{Has, Within, united}
use Rattle.esto_semantics.specs.declared.fact.Fact.{Fact}
use Rattle.esto_term.proofs.SetLemmas.{has_united}
use Rattle.esto_chase_laws.specs.Making.{extended}
use Rattle.esto_semantics.specs.declared.expanded.ExpandedFact.{ExpandedFact}
use Rattle.esto_chase_laws.specs.Worlds.{InWorld, Linked}
use Rattle.esto_chase_laws.specs.WorldMatches.{match_map, IsMatch}
use Rattle.esto_chase_laws.specs.WorldSteps.{IsAsked}
use Rattle.esto_chase_laws.specs.Derived.{Claims, IsNamed, IsUnion, FollowsBy, Follows, AreDerived}
use Rattle.esto_chase_laws.specs.declared.entry.Claim.{Claim}
use Rattle.esto_chase_laws.specs.declared.entry.Claim.TheVariants.{Fact as Stated, Same}
use Rattle.esto_chase_laws.specs.declared.entry.Reason.{Reason}
use Rattle.esto_chase_laws.specs.declared.entry.Reason.TheVariants.{Expanded, Step}
use Rattle.esto_chase_laws.specs.declared.entry.Entry.{Entry}
use Rattle.esto_chase_laws.proofs.GrowLemmas.{AreDerived-push}
use Rattle.esto_cert.specs.Certificates.{numbered, made_at}
use Rattle.esto_cert.specs.Linking.{IsAmong}
use Rattle.esto_cert.specs.declared.linking.Equality.{Equality}
use Rattle.esto_cert.proofs.MatchLemmas.{are_chosen, are_like}
use Rattle.esto_cert.proofs.LinkLemmas.{Linked-said}

-- ---- products

abbrev single : ℕ → List Bool
single zero = true ∷ []
single (suc number) = false ∷ single number

single_has : (atom number : ℕ) → Has (single atom) number ↔ (number ≡ atom)
single_has zero zero = ((λ _. refl), (λ _. refl))
single_has zero (suc number) = ((λ has. absurd (false≢true has)), (λ is. absurd (omega (arith, is))))
single_has (suc atom) zero = ((λ has. absurd (false≢true has)), (λ is. absurd (omega (arith, is))))
single_has (suc atom) (suc number) =
    let rest = single_has atom number in
    ((λ has. ap suc (rest.0 has)), (λ is. rest.1 (omega (arith, is))))

abbrev product_of : Option Entry → List Bool
product_of None = []
product_of (Some entry) = entry.product

abbrev union_of : List Entry → List ℕ → List Bool
union_of entries [] = []
union_of entries (place ∷ places) = united (product_of (slice_get entries place)) (union_of entries places)

module _ (entries : List Entry) where
  abbrev Found : List ℕ → ℕ → Type 0
  Found places number =
      (place : ℕ) × (entry : Entry) × Contains places place × (slice_get entries place ≡ Some entry) × Has entry.product number

  found_first : (place number : ℕ) → Has (product_of (slice_get entries place)) number
      → (entry : Entry) × (slice_get entries place ≡ Some entry) × Has entry.product number
  found_first place number has = by (slice_get entries place) refl has
    where
      by : (found : Option Entry) → slice_get entries place ≡ found → Has (product_of found) number
          → (entry : Entry) × (slice_get entries place ≡ Some entry) × Has entry.product number
      by None is wrong = absurd (false≢true wrong)
      by (Some entry) is own = (entry, is, own)

  union_found : (places : List ℕ) (number : ℕ) → Has (union_of entries places) number → Found places number
  union_found [] number has = absurd (false≢true has)
  union_found (place ∷ places) number has =
      elim ((has_united (product_of (slice_get entries place)) (union_of entries places) number).0 has) [
        | inl first ↦ (let it = found_first place number first in (place, it.0, Contains-head place places, it.1, it.2))
        | inr later ↦ (let it = union_found places number later in (it.0, it.1, Contains-rest place places it.0 it.2, it.3, it.4))
      ]

  found_union : (places : List ℕ) (number place : ℕ) (entry : Entry) → Contains places place → slice_get entries place ≡ Some entry
      → Has entry.product number → Has (union_of entries places) number
  found_union [] number place entry inside at has = absurd (Contains-nil place inside)
  found_union (first ∷ places) number place entry inside at has =
      (has_united (product_of (slice_get entries first)) (union_of entries places) number).1 (elim (Contains-cases first places place inside) [
        | inl is ↦ inl (subst (λ (it : ℕ). Has (product_of (slice_get entries it)) number) (sym is)
            (subst (λ (it : Option Entry). Has (product_of it) number) (sym at) has))
        | inr later ↦ inr (found_union places number place entry later at has)
      ])

  union_is : (places : List ℕ) → ((place : ℕ) → Contains places place → (claim : Claim) × Claims entries place claim)
      → IsUnion entries places (union_of entries places)
  union_is places each = record {
    there = λ place inside. let it = each place inside in slice_get_within entries place it.1.0 it.1.1;
    exact = λ number. (union_found places number, λ (place, entry, inside, at, has). found_union places number place entry inside at has);
  }

-- ---- what chosen facts and equalities say

abbrev pub equal_of : Equality → Claim
equal_of it = Same it.left it.right

module _ (Holds : Claim → Type 0) (chosen : List (Fact Term)) (equalities : List Equality)
    (facts : (fact : Fact Term) → Contains chosen fact → Holds (Stated fact)) (links : (it : Equality) → Contains equalities it → Holds (equal_of it)) where
  pub links_hold : (s t : Term) → Linked (IsAmong chosen equalities) s t → Linked Holds s t
  links_hold s t linked = Linked-said (λ left right. links (record { left = left; right = right })) s t linked

  pub match_holds : (body : List (Fact Term)) → IsMatch (IsAmong chosen equalities) body chosen → IsMatch Holds body chosen
  match_holds body matches = (
    are_chosen Holds body chosen facts (are_like (IsAmong chosen equalities) body chosen matches.0),
    zip_weaker (Linked (IsAmong chosen equalities)) (Linked Holds) _ _ (λ s t _ linked. links_hold s t linked) matches.1,
  )

-- ---- what a rule makes, it asks for

pub numbered_there : {A : Type 0} (items : List A) (number : ℕ) (item : A) → numbered items number ≡ Some item → slice_get items (number - 1) ≡ Some item
numbered_there items number item is = by (number == 0) is
  where
    by : (zero : Bool) → cond zero None (slice_get items (number - 1)) ≡ Some item → slice_get items (number - 1) ≡ Some item
    by true wrong = absurd (cc)
    by false own = own

pub numbered_in : {A : Type 0} (items : List A) (number : ℕ) (item : A) → numbered items number ≡ Some item → Contains items item
numbered_in items number item is = Contains-at items (number - 1) item (numbered_there items number item is)

pub made_asked : (place number : ℕ) (rule : Rule) (m : Term → Term) (claim : Claim) → made_at place number rule m ≡ Some claim → IsAsked number rule m claim
made_asked place number (tuple body head) m claim made = by (numbered head place) refl made
  where
    by : (found : Option (Fact Term)) → numbered head place ≡ found
        → option_map (λ (atom : Fact Term). Stated (image (extended number body head m) atom)) found ≡ Some claim
        → (atom : Fact Term) × Contains head atom × (claim ≡ Stated (image (extended number body head m) atom))
    by None is wrong = absurd (cc)
    by (Some atom) is own = (atom, numbered_in head place atom is, (cc))
made_asked place number (equality body left right) m claim made = by (place == 0) made
  where
    by : (zero : Bool) → cond zero (Some (Same (m left) (m right))) None ≡ Some claim → claim ≡ Same (m left) (m right)
    by true own = cc
    by false wrong = absurd (cc)
made_asked place number (denial body) m claim made = absurd (cc)

-- ---- entries of a set

module _ (expanded : List ExpandedFact) (rules : List Rule) (set : List Bool) where
  -- derived entries that rest on atoms of the set alone
  pub record AreOfSet (entries : List Entry) : Type 0 where
    pub derived : AreDerived expanded rules entries
    pub within : (entry : Entry) → Contains entries entry → Within entry.product set

  -- more such entries, which claim this too
  pub record Grown (entries : List Entry) (claim : Claim) : Type 0 where
    pub later : List Entry
    pub are : AreOfSet later
    pub more : (entry : Entry) → Contains entries entry → Contains later entry
    pub holds : InWorld later set claim

  module _ (entries : List Entry) (are : AreOfSet entries) where
    -- what follows from the entries is one entry more
    grown : (claim : Claim) (product : List Bool) (reason : Reason) → Follows expanded rules entries claim product reason → Within product set
        → Grown entries claim
    grown claim product reason follows within = record {
      later = entries ++ new ∷ [];
      are = record {
        derived = AreDerived-push expanded rules entries new are.derived follows;
        within = λ entry inside. elim (Contains-push_cases entries new entry inside) [
          | inl old ↦ are.within entry old
          | inr is ↦ subst (λ (it : Entry). Within it.product set) is within
        ];
      };
      more = λ entry inside. Contains-append_left entries (new ∷ []) entry inside;
      holds = (new, Contains-push entries new, within, refl);
    }
      where
        new : Entry
        new = record { claim = claim; product = product; reason = reason }

    -- ---- an expanded fact

    pub given : (fact : ExpandedFact) → Contains expanded fact → Has set fact.atom → Grown entries (Stated fact.fact)
    given fact inside has =
        grown (Stated fact.fact) (single fact.atom) (Expanded fact.atom fact.place) (fact, inside, refl, refl, refl, single_has fact.atom)
        (λ number own. subst (Has set) (sym ((single_has fact.atom number).0 own)) has)

    -- ---- a step

    -- the entry at the place makes the claim that the thing is
    abbrev ClaimedBy : {X : Type 0} → (X → Claim) → ℕ → X → Type 0
    ClaimedBy claim_of place thing = Claims entries place (claim_of thing)

    -- what holds is claimed at places
    claimed_at : {X : Type 0} (claim_of : X → Claim) (things : List X) → ((thing : X) → Contains things thing → InWorld entries set (claim_of thing))
        → (places : List ℕ) × AllZip (ClaimedBy claim_of) places things
    claimed_at claim_of [] all = ([], tt)
    claimed_at claim_of (thing ∷ things) all =
        let own = all thing (Contains-head thing things) in
        let at = place-from_Contains entries own.0 own.1 in
        let rest = claimed_at claim_of things (λ other inside. all other (Contains-rest thing things other inside)) in
        (at.0 ∷ rest.0, ((own.0, at.1, own.3), rest.1))

    -- a rule's step at a match among what holds
    pub stepped : (number place : ℕ) (rule : Rule) (chosen : List (Fact Term)) (equalities : List Equality) (claim : Claim)
        → slice_get rules number ≡ Some rule → ((fact : Fact Term) → Contains chosen fact → InWorld entries set (Stated fact))
        → ((it : Equality) → Contains equalities it → InWorld entries set (equal_of it))
        → IsMatch (IsAmong chosen equalities) (body_of rule) chosen → made_at place number rule (match_map (body_of rule) chosen) ≡ Some claim
        → Grown entries claim
    stepped number place rule chosen equalities claim at facts links matches made =
        let own = claimed_at Stated chosen facts in
        let joined = claimed_at equal_of equalities links in
        let places : List ℕ = own.0 ++ joined.0 in
        let union : IsUnion entries places (union_of entries places) = union_is entries places (λ it inside.
        elim (Contains-append_cases own.0 joined.0 it inside) [
          | inl early ↦ (let found = zip_left (ClaimedBy Stated) own.0 chosen own.1 it early in (Stated found.0, found.2))
          | inr later ↦ (let found = zip_left (ClaimedBy equal_of) joined.0 equalities joined.1 it later in (equal_of found.0, found.2))
        ]) in
        let follows : FollowsBy entries number rule places claim = record {
          facts = own.0;
          links = joined.0;
          in_order = refl;
          chosen = chosen;
          stated = own.1;
          equalities = λ it inside.
              let found = zip_left (ClaimedBy equal_of) joined.0 equalities joined.1 it inside in (found.0.left, found.0.right, found.2);
          matches = match_holds (IsNamed entries places) chosen equalities
              (λ fact inside.
              let found = zip_right (ClaimedBy Stated) own.0 chosen own.1 fact inside in
              (found.0, Contains-append_left own.0 joined.0 found.0 found.1, found.2))
              (λ it inside.
              let found = zip_right (ClaimedBy equal_of) joined.0 equalities joined.1 it inside in
              (found.0, Contains-append_right own.0 joined.0 found.0 found.1, found.2)) (body_of rule) matches;
          asked = made_asked place number rule (match_map (body_of rule) chosen) claim made;
        } in
        grown claim (union_of entries places) (Step number places) (rule, at, follows, union)
        (λ atom has.
        let found = (union.exact atom).0 has in
        are.within found.1 (Contains-at entries found.0 found.1 found.3) atom found.4)
