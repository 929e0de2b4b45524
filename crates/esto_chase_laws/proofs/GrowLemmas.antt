-- Entries that grow: what was named, covered, derived or new stays so.
use Rattle.std.proofs.Common.{◌≡◌, ◌⊎◌, ◌<◌, inl, inr, ℕ, Bool, List, [], ◌∷◌, ◌++◌, length, map, take, slice_get, Contains, Some, sym, ap, ◌∙◌, subst, arith}
use Rattle.std.proofs.Common.{length-append}
use Rattle.std.proofs.lemmas.List.{take-append-le, take_at}
use Rattle.std.proofs.lemmas.Option.{slice_get_within}
use Rattle.esto_term.specs.declared.term.Term.{Term}
use Rattle.esto_semantics.specs.Facts.{terms_of}
use Rattle.esto_semantics.specs.Rules.{Rule}
use Rattle.esto_term.specs.Sets.{Within}
use Rattle.esto_semantics.specs.declared.fact.Fact.{Fact}
use Rattle.esto_term.proofs.ListLemmas.{at_left, at_pushed, thing_at}
use Rattle.esto_semantics.specs.Rules.{body_of}
use Rattle.esto_semantics.specs.declared.expanded.ExpandedFact.{ExpandedFact}
use Rattle.esto_term.proofs.ZipLemmas.{zip_weaker}
use Rattle.esto_chase_laws.specs.Worlds.{InWorld, Linked}
use Rattle.esto_chase_laws.specs.WorldMatches.{Touching, match_map, IsMatch, IsDirectMatch}
use Rattle.esto_chase_laws.specs.WorldSteps.{IsCovered}
use Rattle.esto_chase_laws.specs.Derived.{Claims, IsNamed, IsUnion, IsChain, FollowsBy, Follows, AreDerived, AreNew}
use Rattle.esto_chase_laws.specs.declared.entry.Claim.{Claim}
use Rattle.esto_chase_laws.specs.declared.entry.Claim.TheVariants.{Fact as Stated, Same}
use Rattle.esto_chase_laws.specs.declared.entry.Reason.{Reason}
use Rattle.esto_chase_laws.specs.declared.entry.Reason.TheVariants.{Expanded, Step, Equal}
use Rattle.esto_chase_laws.specs.declared.entry.Entry.{Entry}
use Rattle.esto_chase_laws.proofs.LinkLemmas.{Linked-more, Linked-touching, Touching-more}

pub InWorld-more : (entries more : List Entry) (atoms : List Bool) → ((entry : Entry) → Contains entries entry → Contains more entry) → (claim : Claim)
    → InWorld entries atoms claim → InWorld more atoms claim
InWorld-more entries more atoms among claim (entry, inside, within, is) = (entry, among entry inside, within, is)

pub InWorld-within : (entries : List Entry) (product atoms : List Bool) → Within product atoms → (claim : Claim) → InWorld entries product claim
    → InWorld entries atoms claim
InWorld-within entries product atoms inside_atoms claim (entry, inside, within, is) =
    (entry, inside, (λ number has. inside_atoms number (within number has)), is)

pub IsCovered-more : {P Q : Claim → Type 0} → ((c : Claim) → P c → Q c) → (claim : Claim) → IsCovered P claim → IsCovered Q claim
IsCovered-more f (Stated fact) covered = f (Stated fact) covered
IsCovered-more f (Same s t) covered = Touching-more f s t covered

-- ---- a match by more claims

pub IsMatch-more : {P Q : Claim → Type 0} → ((c : Claim) → P c → Q c) → (body chosen : List (Fact Term)) → IsMatch P body chosen → IsMatch Q body chosen
IsMatch-more {P} {Q} f body chosen (are, fits) = (
  zip_weaker _ _ body chosen (λ atom fact _ c. (f (Stated fact) c.0, c.1, c.2)) are,
  zip_weaker (Linked P) (Linked Q) (terms_of chosen) (map (match_map body chosen) (terms_of body)) (λ s t _ l. Linked-more f s t l) fits,
)

pub match-from_direct : (P : Claim → Type 0) → (body chosen : List (Fact Term)) → IsDirectMatch P body chosen → IsMatch P body chosen
match-from_direct P body chosen (are, fits) =
    (are, zip_weaker (Touching P) (Linked P) (terms_of chosen) (map (match_map body chosen) (terms_of body)) (λ s t _ one. Linked-touching s t one) fits)

-- ---- entries appended

module _ (entries more : List Entry) where
  Claims-append : (place : ℕ) (claim : Claim) → Claims entries place claim → Claims (entries ++ more) place claim
  Claims-append place claim (entry, at, is) = (entry, at_left entries more place entry at, is)

  IsNamed-append : (places : List ℕ) (claim : Claim) → IsNamed entries places claim → IsNamed (entries ++ more) places claim
  IsNamed-append places claim (place, inside, claims) = (place, inside, Claims-append place claim claims)

  -- below the length the same stands there
  same_at : (place : ℕ) (entry : Entry) → place < length entries → slice_get (entries ++ more) place ≡ Some entry → slice_get entries place ≡ Some entry
  same_at place entry below at =
      let here = thing_at entries place below in
      let both : Some here.0 ≡ Some entry = sym (at_left entries more place here.0 here.1) ∙ at in
      let is : here.0 ≡ entry = cc in
      here.1 ∙ ap Some is

  pub IsUnion-append : (places : List ℕ) (product : List Bool) → IsUnion entries places product → IsUnion (entries ++ more) places product
  IsUnion-append places product union = record {
    there = λ place inside. let below = union.there place inside in rw length-append (omega (arith, below));
    exact = λ number. (
      (λ has. let found = (union.exact number).0 has in (found.0, found.1, found.2, at_left entries more found.0 found.1 found.3, found.4)),
      (λ (place, entry, inside, at, has). (union.exact number).1 (place, entry, inside, same_at place entry (union.there place inside) at, has)),
    );
  }

  IsChain-append : (places : List ℕ) (term other : Term) → IsChain entries places term other → IsChain (entries ++ more) places term other
  IsChain-append [] term other is = is
  IsChain-append (place ∷ places) term other (next, links, rest) = (
    next,
    elim links [
      | inl c ↦ inl (Claims-append place (Same term next) c)
      | inr c ↦ inr
          (Claims-append place (Same next term) c)
    ],
    IsChain-append places next other rest,
  )

  pub FollowsBy-append : (number : ℕ) (rule : Rule) (places : List ℕ) (claim : Claim) → FollowsBy entries number rule places claim
      → FollowsBy (entries ++ more) number rule places claim
  FollowsBy-append number rule places claim follows = record {
    facts = follows.facts;
    links = follows.links;
    in_order = follows.in_order;
    chosen = follows.chosen;
    stated = zip_weaker _ _ follows.facts follows.chosen (λ place fact _ c. Claims-append place (Stated fact) c) follows.stated;
    equalities = λ place inside. let is = follows.equalities place inside in (is.0, is.1, Claims-append place (Same is.0 is.1) is.2);
    matches = IsMatch-more (IsNamed-append places) (body_of rule) follows.chosen follows.matches;
    asked = follows.asked;
  }

  pub Follows-append : (expanded : List ExpandedFact) (rules : List Rule) (claim : Claim) (product : List Bool) (reason : Reason)
      → Follows expanded rules entries claim product reason → Follows expanded rules (entries ++ more) claim product reason
  Follows-append expanded rules claim product (Expanded atom place) follows = follows
  Follows-append expanded rules claim product (Step number places) (rule, at, by, union) =
      (rule, at, FollowsBy-append number rule places claim by, IsUnion-append places product union)
  Follows-append expanded rules claim product (Equal places) (some, term, other, is, chain, union) =
      (some, term, other, is, IsChain-append places term other chain, IsUnion-append places product union)

-- ---- one entry more

-- what stands at a place of a list with one more item, and what stands before that place
push_cases : {X : Type 0} (xs : List X) (y : X) (place : ℕ) (x : X) → slice_get (xs ++ y ∷ []) place ≡ Some x
    → ((slice_get xs place ≡ Some x) × (take place (xs ++ y ∷ []) ≡ take place xs)) ⊎ ((y ≡ x) × (take place (xs ++ y ∷ []) ≡ xs))
push_cases xs y place x at = elim (at_pushed xs y place x at) [
  | inl there ↦ inl (there, take-append-le place xs (y ∷ []) (omega (arith, slice_get_within xs place x there)))
  | inr last ↦ inr (last.1, take_at xs (y ∷ []) place (sym last.0))
]

pub AreDerived-push : (expanded : List ExpandedFact) (rules : List Rule) (entries : List Entry) (entry : Entry) → AreDerived expanded rules entries
    → Follows expanded rules entries entry.claim entry.product entry.reason → AreDerived expanded rules (entries ++ entry ∷ [])
AreDerived-push expanded rules entries entry derived follows place other at = elim (push_cases entries entry place other at) [
  | inl both ↦ subst (λ its. Follows expanded rules its other.claim other.product other.reason) (sym both.1) (derived place other both.0)
  | inr both ↦ subst (λ its. Follows expanded rules its other.claim other.product other.reason) (sym both.1)
      (subst (λ (it : Entry). Follows expanded rules entries it.claim it.product it.reason) both.0 follows)
]

pub AreNew-push : (entries : List Entry) (entry : Entry) → AreNew entries → ¬ (IsCovered (InWorld entries entry.product) entry.claim)
    → AreNew (entries ++ entry ∷ [])
AreNew-push entries entry new uncovered place other at = elim (push_cases entries entry place other at) [
  | inl both ↦ subst (λ its. ¬ (IsCovered (InWorld its other.product) other.claim)) (sym both.1) (new place other both.0)
  | inr both ↦ subst (λ its. ¬ (IsCovered (InWorld its other.product) other.claim)) (sym both.1)
      (subst (λ (it : Entry). ¬ (IsCovered (InWorld entries it.product) it.claim)) both.0 uncovered)
]
