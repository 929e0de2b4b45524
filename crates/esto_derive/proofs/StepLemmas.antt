-- What lines that stand for entries state, and what follows from them.
use Rattle.std.proofs.Common.{◌≡◌, ◌≢◌, inl, inr, ℕ, ◌+◌, ◌<◌, ◌≤◌, List, [], ◌∷◌, ◌++◌, length, map, slice_get, Option, Some}
use Rattle.std.proofs.Common.{Contains, subst, refl, sym, ap, ◌∙◌, arith}
use Rattle.std.specs.List.{AllZip}
use Rattle.std.proofs.lemmas.Option.{slice_get_within}
use Rattle.esto_term.proofs.ListLemmas.{Contains-nil, Contains-cases, Contains-head, Contains-rest, Contains-flat, Contains-flat_from, Contains-map_from}
use Rattle.esto_term.proofs.ZipLemmas.{zip_left, zip_weaker}
use Rattle.esto_term.specs.Nesting.{greatest_u64}
use Rattle.esto_term.specs.declared.term.Term.{Term}
use Rattle.esto_semantics.specs.Facts.{terms_of}
use Rattle.esto_semantics.specs.declared.fact.Fact.{Fact}
use Rattle.esto_chase_laws.specs.Derived.{Claims, IsNamed, IsEquality}
use Rattle.esto_chase_laws.specs.WorldMatches.{IsLike, Fits, AreChosen}
use Rattle.esto_chase_laws.specs.Worlds.{Linked}
use Rattle.esto_chase_laws.specs.declared.entry.Claim.{Claim}
use Rattle.esto_chase_laws.specs.declared.entry.Claim.TheVariants.{Fact as Stated, Same}
use Rattle.esto_chase_laws.specs.declared.entry.Entry.{Entry}
use Rattle.esto_cert.specs.Certificates.{fact_of, equality_of, facts_at, equalities_at, Matches}
use Rattle.esto_cert.specs.Lines.{with_item}
use Rattle.esto_cert.specs.Linking.{IsAmong}
use Rattle.esto_cert.specs.declared.linking.Equality.{Equality}
use Rattle.esto_cert.proofs.LinkLemmas.{Linked-through, Linked-said}
use Rattle.esto_cert.proofs.NumberLemmas.{numbered_next}
use Rattle.esto_derive.specs.Printing.{Fit}
use Rattle.esto_derive.specs.Writing.{AtLines, AreEqualities, StandFor, own_lines, lines_at, AddsNew}

-- ---- equalities by their lines

module _ (claims : List Claim) where
  -- the equalities of lines that claim equalities alone
  pub record Equalities (lines : List ℕ) : Type 0 where
    pub equalities : List Equality
    pub named : equalities_at claims (map (λ line. line + 1) lines) ≡ Some equalities
    pub has : (left right : Term) → AtLines claims lines (Same left right) → Contains equalities (record { left = left; right = right })

  pub equalities_of : (lines : List ℕ) → AreEqualities claims lines → Equalities lines
  equalities_of [] are = record {
    equalities = [];
    named = refl;
    has = λ left right (line, inside, at). absurd (Contains-nil line inside);
  }
  equalities_of (line ∷ lines) are =
      let its = are line (Contains-head line lines) in
      let rest = equalities_of lines (λ other inside. are other (Contains-rest line lines other inside)) in
      record {
        equalities = record { left = its.0; right = its.1 } ∷ rest.equalities;
        named = ap (λ (it : Option Claim). with_item (equality_of it) (equalities_at claims (map (λ line. line + 1) lines))) (numbered_next claims line ∙ its.2)
            ∙ ap (with_item (Some (record { left = its.0; right = its.1 }))) rest.named;
        has = λ left right (other, inside, at). elim (Contains-cases line lines other inside) [
          | inl is ↦ subst (Contains (record { left = its.0; right = its.1 } ∷ rest.equalities))
              (same its.0 its.1 left right (sym its.2 ∙ ap (slice_get claims) is ∙ at)) (Contains-head _ rest.equalities)
          | inr later ↦ Contains-rest _ rest.equalities _ (rest.has left right (other, later, at))
        ];
      }
    where
      same : (one other left right : Term) → Some (Same one other) ≡ Some (Same left right)
          → ◌≡◌ {A = Equality} (record { left = one; right = other }) (record { left = left; right = right })
      same one other left right is = let first : one ≡ left = cc in let second : other ≡ right = cc in λ i. record { left = first i; right = second i }

-- what new numbers have is of those that they add, where there were none
pub from_links : (more linked : List ℕ) → AddsNew [] more linked → (line : ℕ) → Contains linked line → Contains more line
from_links more linked adds line inside = elim ((adds line).0 inside) [ inl none ↦ absurd (Contains-nil line none) | inr is ↦ is ]

-- ---- lines that stand for entries

module _ (claims : List Claim) (lines : List (List ℕ)) (its : List Entry) (places : List ℕ)
    (stands : (place : ℕ) → Contains places place → (claim : Claim) → Claims its place claim
    → (own : List ℕ) × (slice_get lines place ≡ Some own) × StandFor claims own claim) where
  pub facts_named : (facts : List ℕ) (chosen : List (Fact Term)) → ((place : ℕ) → Contains facts place → Contains places place)
      → AllZip (λ (place : ℕ) (fact : Fact Term). Claims its place (Stated fact)) facts chosen
      → facts_at claims (map (λ line. line + 1) (lines_at lines facts)) ≡ Some chosen
  facts_named [] [] among stated = refl
  facts_named [] (fact ∷ chosen) among stated = absurd stated
  facts_named (place ∷ facts) [] among stated = absurd stated
  facts_named (place ∷ facts) (fact ∷ chosen) among stated =
      let (own, at, (line, is, claimed)) = stands place (among place (Contains-head place facts)) (Stated fact) stated.0 in
      ap (λ (it : List ℕ). facts_at claims (map (λ line. line + 1) (it ++ lines_at lines facts))) (ap own_lines at ∙ is)
      ∙ ap (λ (it : Option Claim). with_item (fact_of it) (facts_at claims (map (λ line. line + 1) (lines_at lines facts)))) (numbered_next claims line
      ∙ claimed)
      ∙ ap (with_item (Some fact)) (facts_named facts chosen (λ other inside. among other (Contains-rest place facts other inside)) stated.1)

  -- each of these lines is there
  pub facts_there : (facts : List ℕ) (chosen : List (Fact Term)) → ((place : ℕ) → Contains facts place → Contains places place)
      → AllZip (λ (place : ℕ) (fact : Fact Term). Claims its place (Stated fact)) facts chosen
      → (line : ℕ) → Contains (lines_at lines facts) line → line < length claims
  facts_there facts chosen among stated line inside =
      let (place, place_inside, own_inside) = Contains-flat_from (λ place. own_lines (slice_get lines place)) facts line inside in
      let (fact, fact_inside, claims_fact) = zip_left (λ (place : ℕ) (fact : Fact Term). Claims its place
      (Stated fact)) facts chosen stated place place_inside in
      let (own, at, (its_line, is, claimed)) = stands place (among place place_inside) (Stated fact) claims_fact in
      elim (Contains-cases its_line [] line (subst (λ (it : List ℕ). Contains it line) (ap own_lines at ∙ is) own_inside)) [
        | inl same ↦ subst (λ (it : ℕ). it < length claims) same (slice_get_within claims its_line (Stated fact) claimed)
        | inr none ↦ absurd (Contains-nil line none)
      ]

  module _ (links : List ℕ) (among : (place : ℕ) → Contains links place → Contains places place)
      (equalities : (place : ℕ) → Contains links place → IsEquality its place) (linked : List ℕ) (adds : AddsNew [] (lines_at lines links) linked) where
    pub are_equalities : AreEqualities claims linked
    are_equalities line inside =
        let (place, place_inside, own_inside) = Contains-flat_from (λ place. own_lines (slice_get lines place)) links line
        (from_links (lines_at lines links) linked adds line inside) in
        let (left, right, claims_it) = equalities place place_inside in
        let (own, at, (are, by)) = stands place (among place place_inside) (Same left right) claims_it in
        are line (subst (λ (it : List ℕ). Contains it line) (ap own_lines at) own_inside)

    -- what the entries link the lines link
    pub lines_link : (place : ℕ) → Contains links place → (left right : Term) → Claims its place (Same left right) → Linked (AtLines claims linked) left right
    lines_link place inside left right claims_it =
        let (own, at, (are, by)) = stands place (among place inside) (Same left right) claims_it in
        Linked-said (λ s t (line, line_inside, claimed). (
          line,
          (adds line).1 (inr (Contains-flat (λ place. own_lines (slice_get lines place)) links place line inside
              (subst (λ (it : List ℕ). Contains it line) (sym (ap own_lines at)) line_inside))),
          claimed,
        )) left right by

    pub all_link : (s t : Term) → Linked (IsNamed its links) s t → Linked (AtLines claims linked) s t
    all_link = Linked-through (λ s t (place, inside, claims_it). lines_link place inside s t claims_it)

  -- ---- a match

  module _ (facts links : List ℕ) (chosen body : List (Fact Term)) (facts_among : (place : ℕ) → Contains facts place → Contains places place)
      (links_among : (place : ℕ) → Contains links place → Contains places place)
      (stated : AllZip (λ (place : ℕ) (fact : Fact Term). Claims its place (Stated fact)) facts chosen)
      (equalities : (place : ℕ) → Contains links place → IsEquality its place) (linked : List ℕ) (adds : AddsNew [] (lines_at lines links) linked)
      (alike : AllZip IsLike body chosen) (fits : Fits (Linked (IsNamed its links)) (terms_of body) (terms_of chosen)) where
    pub eqs : Equalities claims linked
    eqs = equalities_of claims linked (are_equalities links links_among equalities linked adds)

    among_linked : (s t : Term) → Linked (AtLines claims linked) s t → Linked (IsAmong chosen eqs.equalities) s t
    among_linked = Linked-said (λ s t held. eqs.has s t held)

    pub one : (s t : Term) → Linked (IsNamed its links) s t → Linked (IsAmong chosen eqs.equalities) s t
    one s t by = among_linked s t (all_link links links_among equalities linked adds s t by)

    chosen_among : (some all : List (Fact Term)) → AllZip IsLike all some → ((fact : Fact Term) → Contains some fact → Contains chosen fact)
        → AreChosen (IsAmong chosen eqs.equalities) all some
    chosen_among [] [] like inside = tt
    chosen_among [] (atom ∷ all) like inside = absurd like
    chosen_among (fact ∷ some) [] like inside = absurd like
    chosen_among (fact ∷ some) (atom ∷ all) like inside = (
      (inside fact (Contains-head fact some), like.0.0, like.0.1),
      chosen_among some all like.1 (λ other there. inside other (Contains-rest fact some other there)),
    )

    pub matches : Matches claims body (map (λ line. line + 1) (lines_at lines facts)) (map (λ line. line + 1) linked) chosen eqs.equalities
    matches = record {
      stated = facts_named facts chosen facts_among stated;
      named = eqs.named;
      fits = (
        chosen_among chosen body alike (λ fact inside. inside),
        zip_weaker (Linked (IsNamed its links)) (Linked (IsAmong chosen eqs.equalities)) _ _ (λ s t inside by. one s t by) fits,
      );
    }

    -- the numbers of the lines, counted from 1, are no greater than how many there are
    numbers_fit : length claims ≤ greatest_u64 → (some : List ℕ) → ((line : ℕ) → Contains some line → line < length claims) → Fit (map (λ line. line + 1) some)
    numbers_fit few some below number inside =
        let (line, line_inside, is) = Contains-map_from (λ line. line + 1) some number inside in
        subst (λ (it : ℕ). it ≤ greatest_u64) is (omega (arith, few, below line line_inside))

    pub facts_fit : length claims ≤ greatest_u64 → Fit (map (λ line. line + 1) (lines_at lines facts))
    facts_fit few = numbers_fit few (lines_at lines facts) (facts_there facts chosen facts_among stated)

    pub links_fit : length claims ≤ greatest_u64 → Fit (map (λ line. line + 1) linked)
    links_fit few = numbers_fit few linked (λ line inside.
        let (left, right, at) = are_equalities links links_among equalities linked adds line inside in
        slice_get_within claims line (Same left right) at)

    -- a body that is not empty asks for a line
    pub facts_some : body ≢ [] → map (λ line. line + 1) (lines_at lines facts) ≢ []
    facts_some some none = by body chosen alike some (sym (ap (facts_at claims) none) ∙ facts_named facts chosen facts_among stated)
      where
        by : (all some : List (Fact Term)) → AllZip IsLike all some → all ≢ [] → Some [] ≡ Some some → ⊥
        by [] some like empty is = empty refl
        by (atom ∷ all) [] like empty is = like
        by (atom ∷ all) (fact ∷ some) like empty is = let wrong : [] ≡ fact ∷ some = cc in cc
