-- The match that a certificate ends with.
use Rattle.std.proofs.Common.{◌≡◌, ◌≢◌, inl, inr, ℕ, ◌+◌, ◌<◌, ◌≤◌, Bool, List, [], ◌++◌, length, map, slice_get, Some, Contains, codes, subst, sym, ap, ◌∙◌}
use Rattle.std.proofs.Common.{arith}
use Rattle.std.specs.List.{AllZip}
use Rattle.std.proofs.lemmas.List.{length-append, length-map, map-append}
use Rattle.std.proofs.lemmas.List.Elements.{Contains-append_cases, Contains-append_left, Contains-append_right}
use Rattle.esto_term.proofs.ListLemmas.{map_agree}
use Rattle.esto_term.proofs.ZipLemmas.{zip_append, zip_length, zip_split, zip_weaker}
use Rattle.esto_term.specs.Nesting.{greatest_u64}
use Rattle.esto_term.specs.declared.term.Term.{Term}
use Rattle.esto_term.specs.declared.term.Term.TheVariants.{Const}
use Rattle.esto_semantics.proofs.CanonicalLemmas.{Mentions-terms_of}
use Rattle.esto_semantics.specs.Facts.{terms_of}
use Rattle.esto_semantics.specs.Maps.{Keeps, IsFixedBy}
use Rattle.esto_term.specs.Sets.{Has}
use Rattle.esto_semantics.specs.declared.fact.Fact.{Fact}
use Rattle.esto_chase_laws.proofs.ClosedLemmas.{choose, Fits-linked}
use Rattle.esto_chase_laws.proofs.TakenLemmas.{taken-Const, taken-stays, Fits-split}
use Rattle.esto_chase_laws.specs.Derived.{Claims, IsNamed}
use Rattle.esto_chase_laws.specs.WorldLaws.{HasMatch}
use Rattle.esto_chase_laws.specs.WorldMatches.{Fits, taken, match_map}
use Rattle.esto_chase_laws.specs.Worlds.{InWorld, Linked}
use Rattle.esto_chase_laws.specs.declared.entry.Claim.{Claim}
use Rattle.esto_chase_laws.specs.declared.entry.Claim.TheVariants.{Fact as Stated}
use Rattle.esto_chase_laws.specs.declared.entry.Entry.{Entry}
use Rattle.esto_cert.specs.Certificates.{Case, MayEnd}
use Rattle.esto_cert.specs.declared.line.Line.TheVariants as line
use Rattle.esto_cert.proofs.MatchLemmas.{are_like}
use Rattle.esto_derive.specs.Marking.{AreUsed}
use Rattle.esto_derive.specs.Printing.{line_text, IsReadable}
use Rattle.esto_derive.specs.Reasons.{AreNamedBy}
use Rattle.esto_derive.specs.Searching.{ClaimsIn, GoesOn, AreLinks}
use Rattle.esto_derive.specs.Writing.{AreOwn, IsBasis, IsState, IsMatchAt, IsWritten, StandFor, AddsNew, lines_at}
use Rattle.esto_derive.specs.declared.writing.Written.{Written}
use Rattle.esto_derive.proofs.NamingLemmas.{all_named, are_named}
use Rattle.esto_derive.proofs.StateLemmas.{ended}
use Rattle.esto_derive.proofs.StepLemmas.{matches, eqs, one, facts_fit, links_fit, facts_some}
use Rattle.esto_derive.proofs.WriteLemmas.{both_at, fact_lines, stand_at}

-- ---- a match to be found

module _ (Holds : Claim → Type 0) (head : List Term) (body : List (Fact Term)) (targets : List Term) (match : HasMatch Holds head body targets) where
  -- the head's terms fit the targets
  pub head_fits : Fits (Linked Holds) head targets
  head_fits = Fits-linked Holds match.0 match.1 head targets match.3

  -- facts go on with the body
  pub some_go_on : (chosen : List (Fact Term)) × GoesOn Holds head targets body chosen
  some_go_on =
      let c = choose Holds match.0 match.1 body match.2 in (
        c.0,
        (
          c.1,
          Fits-linked Holds match.0 match.1 (head ++ terms_of body) (targets ++ terms_of c.0)
              (subst (AllZip (Linked Holds) (targets ++ terms_of c.0)) (sym (map-append match.0 head (terms_of body)))
              (zip_append (Linked Holds) targets (terms_of c.0) (map match.0 head) (map match.0 (terms_of body)) match.3 c.2)),
        ),
      )

-- ---- a match that is found

module _ (Holds : Claim → Type 0) (head : List Term) (body chosen : List (Fact Term)) (targets : List Term)
    (lengths : length (terms_of body) ≡ length (terms_of chosen)) (head_lengths : length targets ≡ length head)
    (fits : Fits (Linked Holds) (head ++ terms_of body) (targets ++ terms_of chosen)) where
  abbrev m : Term → Term
  m = taken (head ++ terms_of body) (targets ++ terms_of chosen)

  keeps : Keeps Const m
  keeps text = taken-Const (head ++ terms_of body) (targets ++ terms_of chosen) text

  parts : AllZip (Linked Holds) targets (map m head) × AllZip (Linked Holds) (terms_of chosen) (map m (terms_of body))
  parts = zip_split (Linked Holds) targets (terms_of chosen) (map m head) (map m (terms_of body)) (head_lengths ∙ sym (length-map head m))
      (subst (AllZip (Linked Holds) (targets ++ terms_of chosen)) (map-append m head (terms_of body)) fits)

  both : Fits (Linked Holds) (terms_of body ++ head) (terms_of chosen ++ targets)
  both = Fits-linked Holds m keeps (terms_of body ++ head) (terms_of chosen ++ targets)
      (subst (AllZip (Linked Holds) (terms_of chosen ++ targets)) (sym (map-append m (terms_of body) head))
      (zip_append (Linked Holds) (terms_of chosen) targets (map m (terms_of body)) (map m head) parts.1 parts.0))

  split : Fits (Linked Holds) (terms_of body) (terms_of chosen)
      × AllZip (Linked Holds) targets (map (taken (terms_of body ++ head) (terms_of chosen ++ targets)) head)
  split = Fits-split (Linked Holds) (terms_of body) (terms_of chosen) lengths head targets (sym head_lengths) both

  pub body_fits : Fits (Linked Holds) (terms_of body) (terms_of chosen)
  body_fits = split.0

  pub heads_linked : ((term : Term) → Contains head term → IsFixedBy body term) → AllZip (Linked Holds) targets (map (match_map body chosen) head)
  heads_linked safe =
      subst (AllZip (Linked Holds) targets)
      (map_agree (taken (terms_of body ++ head) (terms_of chosen ++ targets)) (match_map body chosen) head (λ term inside. same term
      (safe term inside))) split.1
    where
      same : (term : Term) → IsFixedBy body term → taken (terms_of body ++ head) (terms_of chosen ++ targets) term ≡ match_map body chosen term
      same term (inl (text, is)) =
          ap (taken (terms_of body ++ head) (terms_of chosen ++ targets)) is ∙ taken-Const (terms_of body ++ head) (terms_of chosen ++ targets) text
          ∙ sym (taken-Const (terms_of body) (terms_of chosen) text) ∙ ap (match_map body chosen) (sym is)
      same term (inr mentioned) = taken-stays (terms_of body) (terms_of chosen) head targets lengths term (Mentions-terms_of body term mentioned)

-- the places that were found, with their links, are those of a match
pub match_at : (entries : List Entry) (set : List Bool) (head : List Term) (body chosen : List (Fact Term)) (targets : List Term) (facts links : List ℕ)
    → AllZip (λ (place : ℕ) (fact : Fact Term). ClaimsIn entries set place (Stated fact)) facts chosen
    → GoesOn (InWorld entries set) head targets body chosen → length targets ≡ length head → AreLinks entries set links
    → Fits (Linked (IsNamed entries links)) (head ++ terms_of body) (targets ++ terms_of chosen)
    → ((term : Term) → Contains head term → IsFixedBy body term) → IsMatchAt entries head targets body facts links
match_at entries set head body chosen targets facts links stated (are, fits) head_lengths links_are by_links safe = record {
  chosen = chosen;
  stated = zip_weaker (λ (place : ℕ) (fact : Fact Term). ClaimsIn entries set place (Stated fact))
      (λ (place : ℕ) (fact : Fact Term). Claims entries place (Stated fact)) facts chosen (λ place fact inside (entry, at, within, is). (entry, at, is)) stated;
  equalities = λ place inside. let its = links_are place inside in (its.2.0, its.2.1, (its.0, its.1, its.2.3));
  alike = are_like (InWorld entries set) body chosen are;
  fits = body_fits (IsNamed entries links) head body chosen targets lengths head_lengths by_links;
  heads = heads_linked (IsNamed entries links) head body chosen targets lengths head_lengths by_links safe;
}
  where
    whole : length (targets ++ terms_of chosen) ≡ length (head ++ terms_of body)
    whole = zip_length (Linked (InWorld entries set)) _ _ fits ∙ length-map (head ++ terms_of body) (taken (head ++ terms_of body) (targets ++ terms_of chosen))

    lengths : length (terms_of body) ≡ length (terms_of chosen)
    lengths = omega (arith, whole, head_lengths, length-append targets (terms_of chosen), length-append head (terms_of body))

-- ---- the last line

module _ (case : Case) (entries : List Entry) (used : List Bool) (basis : IsBasis case entries used) (lines : List (List ℕ)) (written : Written)
    (state : IsState case entries used lines written) (whole : length lines ≡ length entries) (facts links : List ℕ)
    (within : (place : ℕ) → Contains (facts ++ links) place → place < length lines) (are_used : AreUsed entries facts links used)
    (match : IsMatchAt entries case.query.head case.targets case.query.body facts links) (some : case.query.body ≢ []) where
  has : (place : ℕ) → Contains (facts ++ links) place → Has used place
  has place inside = elim (Contains-append_cases facts links place inside) [
    | inl fact ↦ are_used.has_facts place fact
    | inr link ↦ are_used.has_links place link
  ]

  stand_both : (place : ℕ) → Contains (facts ++ links) place → (claim : Claim) → Claims entries place claim
      → (own : List ℕ) × (slice_get lines place ≡ Some own) × StandFor state.claims own claim × AreOwn entries state.places place own
  stand_both place inside = both_at case entries used basis lines written state place (within place inside) (has place inside)

  stands : (place : ℕ) → Contains (facts ++ links) place → (claim : Claim) → Claims entries place claim
      → (own : List ℕ) × (slice_get lines place ≡ Some own) × StandFor state.claims own claim
  stands place inside = stand_at case entries used basis lines written state place (within place inside) (has place inside)

  pub match_ends : (linked : List ℕ) → AddsNew [] (lines_at lines links) linked → length state.claims ≤ greatest_u64 → (bytes : List ℕ)
      → bytes ≡ written.text ++ (line_text (line.Match (map (λ line. line + 1) (lines_at lines facts)) (map (λ line. line + 1) linked)) ++ codes "\n")
      → IsWritten case entries bytes
  match_ends linked adds few bytes text =
      let numbers : List ℕ = map (λ line. line + 1) (lines_at lines facts) in
      let others : List ℕ = map (λ line. line + 1) linked in
      let left : (place : ℕ) → Contains facts place → Contains (facts ++ links) place = λ place inside. Contains-append_left facts links place inside in
      let right : (place : ℕ) → Contains links place → Contains (facts ++ links) place = λ place inside. Contains-append_right facts links place inside in
      let may : MayEnd case state.claims (line.Match numbers others) = (
        match.chosen,
        (eqs state.claims lines entries (facts ++ links) stands facts links match.chosen case.query.body left right match.stated match.equalities linked adds
            match.alike match.fits).equalities,
        matches state.claims lines entries (facts ++ links) stands facts links match.chosen case.query.body left right match.stated match.equalities linked
            adds match.alike match.fits,
        zip_weaker (Linked (IsNamed entries links)) _ _ _
            (λ s t inside by. one state.claims lines entries (facts ++ links) stands facts links match.chosen case.query.body left right match.stated
            match.equalities linked adds match.alike match.fits s t by) match.heads,
      ) in
      let readable : IsReadable (line.Match numbers others) = (
        facts_some state.claims lines entries (facts ++ links) stands facts links match.chosen case.query.body left right match.stated match.equalities linked
            adds match.alike match.fits some,
        facts_fit state.claims lines entries (facts ++ links) stands facts links match.chosen case.query.body left right match.stated match.equalities linked
            adds match.alike match.fits few,
        links_fit state.claims lines entries (facts ++ links) stands facts links match.chosen case.query.body left right match.stated match.equalities linked
            adds match.alike match.fits few,
      ) in
      let named : AreNamedBy entries state.places (facts ++ links) numbers others =
      are_named state.claims state.places lines entries (facts ++ links) (fact_lines case entries used basis lines written state) stand_both facts links left
      right
      match.chosen match.stated match.equalities linked adds in
      ended case entries used lines written state numbers others readable may bytes text
      (all_named case entries used basis lines written state whole facts links are_used numbers others named)
