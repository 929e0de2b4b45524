-- Lines of entries by their reasons: what stands for an entry, and one line more.
use Rattle.std.proofs.Common.{◌≡◌, inl, inr, ℕ, ◌<◌, ◌≤◌, Bool, List, [], ◌∷◌, ◌++◌, length, take, get_or, slice_get, Some, AllPairs}
use Rattle.std.proofs.Common.{Contains, subst, refl, sym, ap, ◌∙◌, arith}
use Rattle.std.proofs.lemmas.Bool.{cases_order}
use Rattle.std.proofs.lemmas.List.{length-take}
use Rattle.std.proofs.lemmas.List.Elements.{Contains-get_or}
use Rattle.std.proofs.lemmas.List.Quantifiers.{all_pairs_push}
use Rattle.std.proofs.lemmas.Option.{get_or_from_slice_get, same_Some, slice_get_within}
use Rattle.esto_term.proofs.ListLemmas.{Contains-nil}
use Rattle.esto_term.proofs.ZipLemmas.{zip_append, zip_length, zip_weaker}
use Rattle.esto_term.specs.declared.term.Term.{Term}
use Rattle.esto_semantics.specs.Rules.{Rule}
use Rattle.esto_semantics.specs.declared.fact.Fact.{Fact}
use Rattle.esto_semantics.specs.declared.expanded.ExpandedFact.{ExpandedFact}
use Rattle.esto_chase_laws.specs.Derived.{AreDerived, Claims, Follows}
use Rattle.esto_chase_laws.specs.declared.entry.Claim.{Claim}
use Rattle.esto_chase_laws.specs.declared.entry.Claim.TheVariants.{Fact as Stated, Same}
use Rattle.esto_chase_laws.specs.declared.entry.Entry.{Entry}
use Rattle.esto_chase_laws.specs.declared.entry.Reason.{Reason}
use Rattle.esto_chase_laws.specs.declared.entry.Reason.TheVariants as reason
use Rattle.esto_cert.specs.Certificates.{Case, MayClaim, numbered}
use Rattle.esto_cert.specs.declared.line.Line.{Line}
use Rattle.esto_derive.specs.Marking.{named_by}
use Rattle.esto_derive.specs.Reasons.{HasLine, IsBehind, itself, through, AreNamedBy, SaysReason, IsLineOf, AreOfEntries}
use Rattle.esto_derive.proofs.MarkLemmas.{NamesEarlier}
use Rattle.esto_cert.proofs.ClaimLemmas.{claims_more}
use Rattle.esto_cert.proofs.NumberLemmas.{numbered_more}

-- ---- what stands for an entry

-- an entry that has a line stands for itself alone
pub behind_own : (entries : List Entry) (place other : ℕ) (entry : Entry) → slice_get entries place ≡ Some entry → HasLine entry.reason
    → IsBehind entries place other → other ≡ place
behind_own entries place other entry at has (itself its_at its_has) = refl
behind_own entries place other entry at has (through {entry = its} {places = places} its_at is inside behind) =
    absurd (subst HasLine is (subst (λ (it : Entry). HasLine it.reason) (same_Some entry its (sym at ∙ its_at)) has))

-- what stands for an entry that equalities make one stands for one of them
pub behind_equal : (entries : List Entry) (place other : ℕ) (entry : Entry) (places : List ℕ) → slice_get entries place ≡ Some entry
    → entry.reason ≡ reason.Equal places → IsBehind entries place other → (named : ℕ) × Contains places named × IsBehind entries named other
behind_equal entries place other entry places at is (itself its_at its_has) =
    absurd (subst HasLine is (subst (λ (it : Entry). HasLine it.reason) (same_Some _ entry (sym its_at ∙ at)) its_has))
behind_equal entries place other entry places at is (through {named = named} {entry = its} {places = its_places} its_at its_is inside behind) = (
  named,
  subst (λ (it : List ℕ). Contains it named) (same its_places places (sym its_is
      ∙ ap (λ (it : Entry). it.reason) (same_Some its entry (sym its_at ∙ at)) ∙ is)) inside,
  behind,
)
  where
    same : (some others : List ℕ) → reason.Equal some ≡ reason.Equal others → some ≡ others
    same some others equal = cc

module _ (expanded : List ExpandedFact) (rules : List Rule) (entries : List Entry) (derived : AreDerived expanded rules entries) (place : ℕ) (entry : Entry)
    (at : slice_get entries place ≡ Some entry) where
  -- the entry of a fact has a line
  pub fact_has_line : (fact : Fact Term) → entry.claim ≡ Stated fact → HasLine entry.reason
  fact_has_line fact is = by entry.reason (derived place entry at)
    where
      by : (its : Reason) → Follows expanded rules (take place entries) entry.claim entry.product its → HasLine its
      by (reason.Expanded atom at_place) follows = tt
      by (reason.Step number places) follows = tt
      by (reason.Equal places) (some, left, right, claim_is, chain, union) = let wrong : Stated fact ≡ Same left right = sym is ∙ claim_is in cc

  pub named_below : NamesEarlier place entry
  named_below named = by entry.reason (derived place entry at)
    where
      by : (its : Reason) → Follows expanded rules (take place entries) entry.claim entry.product its → Contains (named_by its) named → named < place
      by (reason.Expanded atom at_place) follows inside = absurd (Contains-nil named inside)
      by (reason.Step number places) (rule, rule_at, follows, union) inside = omega (arith, union.there named inside, length-take place entries)
      by (reason.Equal places) (some, left, right, claim_is, chain, union) inside = omega (arith, union.there named inside, length-take place entries)

pub behind_below : (expanded : List ExpandedFact) (rules : List Rule) (entries : List Entry) → AreDerived expanded rules entries → (place other : ℕ)
    → IsBehind entries place other → other ≤ place
behind_below expanded rules entries derived place other (itself at has) = omega arith
behind_below expanded rules entries derived place other (through {named = named} {entry = entry} {places = places} at is inside behind) =
    omega (
      arith,
      behind_below expanded rules entries derived named other behind,
      named_below expanded rules entries derived place entry at named (subst (λ (it : Reason). Contains (named_by it) named) (sym is) inside),
    )

-- ---- rising places

pub rising_more : (places : List ℕ) (next : ℕ) → AllPairs ◌<◌ places → ((place : ℕ) → Contains places place → place < next)
    → AllPairs ◌<◌ (places ++ next ∷ [])
rising_more places next rising below =
    all_pairs_push ◌<◌ places next rising (λ place default within. below (get_or places place default) (Contains-get_or places place default within))

module _ (places : List ℕ) (rising : AllPairs ◌<◌ places) where
  in_order : (line later one other : ℕ) → slice_get places line ≡ Some one → slice_get places later ≡ Some other → line < later → one < other
  in_order line later one other at later_at before =
      subst (λ (it : ℕ). it < other) (get_or_from_slice_get places line one 0 at)
      (subst (λ (it : ℕ). get_or places line 0 < it) (get_or_from_slice_get places later other 0 later_at)
      (rising line later 0 before (slice_get_within places later other later_at)))

  -- an earlier place stands earlier
  pub stands_before : (line later one other : ℕ) → slice_get places line ≡ Some one → slice_get places later ≡ Some other → one < other → line < later
  stands_before line later one other at later_at below = elim (cases_order line later) [
    | inl same ↦ (let equal : one ≡ other = same_Some one other (sym at ∙ ap (slice_get places) same ∙ later_at) in absurd (omega (arith, below, equal)))
    | inr (inl before) ↦ before
    | inr (inr after) ↦ absurd (omega (arith, below, in_order later line other one later_at at after))
  ]

  -- a place stands once
  pub stands_once : (line other place : ℕ) → slice_get places line ≡ Some place → slice_get places other ≡ Some place → line ≡ other
  stands_once line other place at other_at = elim (cases_order line other) [
    | inl same ↦ same
    | inr (inl before) ↦ absurd (omega (arith, in_order line other place place at other_at before))
    | inr (inr after) ↦ absurd (omega (arith, in_order other line place place other_at at after))
  ]

-- ---- one line more

named_more : (entries : List Entry) (written more places facts links : List ℕ) → AreNamedBy entries written places facts links
    → AreNamedBy entries (written ++ more) places facts links
named_more entries written more places facts links are = record {
  stated = are.stated;
  equal = are.equal;
  in_order = are.in_order;
  facts_are = zip_weaker (λ (place : ℕ) (number : ℕ). numbered written number ≡ Some place) (λ (place : ℕ) (number : ℕ). numbered
      (written ++ more) number ≡ Some place) are.stated facts (λ place number inside at. numbered_more written more number place at) are.facts_are;
  links_all = λ place other inside behind.
      let (number, there, at) = are.links_all place other inside behind in (number, there, numbered_more written more number other at);
  links_only = λ number inside.
      let (place, other, there, behind, at) = are.links_only number inside in (place, other, there, behind, numbered_more written more number other at);
}

says_more : (entries : List Entry) (written more : List ℕ) (its : Reason) (line : Line) → SaysReason entries written its line
    → SaysReason entries (written ++ more) its line
says_more entries written more (reason.Expanded atom place) line says = says
says_more entries written more (reason.Step number places) line (head, facts, links, is, named) =
    (head, facts, links, is, named_more entries written more places facts links named)
says_more entries written more (reason.Equal places) line says = absurd says

line_of_more : (entries : List Entry) (set : List Bool) (written more : List ℕ) (place : ℕ) (line : Line) → IsLineOf entries set written place line
    → IsLineOf entries set (written ++ more) place line
line_of_more entries set written more place line (entry, at, within, says) =
    (entry, at, within, says_more entries written more entry.reason line says)

pub of_entries_more : (case : Case) (entries : List Entry) (places : List ℕ) (lines : List Line) (claims : List Claim)
    → AreOfEntries case entries places lines claims → (next : ℕ) → ((place : ℕ) → Contains places place → place < next) → (line : Line) (claim : Claim)
    → MayClaim case claims line claim → Claims entries next claim → IsLineOf entries case.set places next line
    → AreOfEntries case entries (places ++ next ∷ []) (lines ++ line ∷ []) (claims ++ claim ∷ [])
of_entries_more case entries places lines claims are next below line claim may claimed says = record {
  rising = rising_more places next are.rising below;
  says = zip_append (IsLineOf entries case.set (places ++ next ∷ [])) places (next ∷ []) lines (line ∷ [])
      (zip_weaker (IsLineOf entries case.set places) (IsLineOf entries case.set (places ++ next ∷ [])) places lines
      (λ place its inside. line_of_more entries case.set places (next ∷ []) place its) are.says)
      (line_of_more entries case.set places (next ∷ []) next line says, tt);
  claimed = zip_append (Claims entries) places (next ∷ []) claims (claim ∷ []) are.claimed (claimed, tt);
  are_claims = claims_more case lines claims line claim may are.are_claims;
}

-- as many lines as places, and as many claims
pub as_many_lines : (case : Case) (entries : List Entry) (places : List ℕ) (lines : List Line) (claims : List Claim)
    → AreOfEntries case entries places lines claims → length places ≡ length lines
as_many_lines case entries places lines claims are = zip_length (IsLineOf entries case.set places) places lines are.says

pub as_many_claims : (case : Case) (entries : List Entry) (places : List ℕ) (lines : List Line) (claims : List Claim)
    → AreOfEntries case entries places lines claims → length places ≡ length claims
as_many_claims case entries places lines claims are = zip_length (Claims entries) places claims are.claimed
