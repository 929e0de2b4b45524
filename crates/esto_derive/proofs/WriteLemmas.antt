-- The line of an entry, and what stands for it then.
use Rattle.std.proofs.Common.{◌≡◌, ◌≢◌, inl, inr, ℕ, ◌+◌, ◌-◌, ◌<◌, ◌≤◌, Bool, List, [], ◌∷◌, ◌++◌, length, map, take, drop, slice_get, Some, Contains, codes}
use Rattle.std.proofs.Common.{subst, refl, sym, ap, ◌∙◌, arith}
use Rattle.std.specs.List.{AllZip}
use Rattle.std.proofs.lemmas.List.{drop_at, length-append, length-take, take_at}
use Rattle.std.proofs.lemmas.List.Elements.{Contains-append_left, Contains-append_right, Contains-append_cases}
use Rattle.std.proofs.lemmas.Option.{same_Some}
use Rattle.esto_term.proofs.ListLemmas.{Contains-cases, Contains-flat, Contains-flat_from, Contains-head, Contains-rest, Contains-nil, thing_at}
use Rattle.esto_term.proofs.PlaceLemmas.{taken_at}
use Rattle.esto_term.proofs.ZipLemmas.{zip_left, zip_length, zip_weaker}
use Rattle.esto_term.specs.Nesting.{greatest_u64}
use Rattle.esto_term.specs.declared.term.Term.{Term}
use Rattle.esto_semantics.specs.Facts.{terms_of}
use Rattle.esto_semantics.specs.Rules.{Rule, body_of}
use Rattle.esto_term.specs.Sets.{Has}
use Rattle.esto_semantics.specs.declared.fact.Fact.{Fact}
use Rattle.esto_semantics.specs.declared.expanded.ExpandedFact.{ExpandedFact}
use Rattle.esto_chase_laws.proofs.LinkLemmas.{Linked-then, Linked-back}
use Rattle.esto_chase_laws.specs.Derived.{Claims, IsNamed, IsUnion, IsEquality, IsChain, FollowsBy, Follows, AreDerived}
use Rattle.esto_chase_laws.specs.WorldMatches.{IsLike, Fits, match_map}
use Rattle.esto_chase_laws.specs.Worlds.{Linked, here}
use Rattle.esto_chase_laws.specs.declared.entry.Claim.{Claim}
use Rattle.esto_chase_laws.specs.declared.entry.Claim.TheVariants.{Fact as Stated, Same}
use Rattle.esto_chase_laws.specs.declared.entry.Entry.{Entry}
use Rattle.esto_chase_laws.specs.declared.entry.Reason.{Reason}
use Rattle.esto_chase_laws.specs.declared.entry.Reason.TheVariants.{Expanded, Step, Equal}
use Rattle.esto_cert.specs.Certificates.{Case, MayClaim, made_at}
use Rattle.esto_cert.specs.declared.line.Line.{Line}
use Rattle.esto_cert.specs.declared.line.Line.TheVariants as line
use Rattle.esto_derive.specs.Marking.{named_by}
use Rattle.esto_derive.specs.Printing.{line_text, IsReadable}
use Rattle.esto_derive.specs.Reasons.{HasLine, through, AreNamedBy, SaysReason}
use Rattle.esto_derive.specs.Writing.{AtLines, StandFor, AreOwn, IsBasis, IsState, AddsNew, lines_at, own_lines}
use Rattle.esto_derive.specs.declared.writing.Written.{Written}
use Rattle.esto_derive.proofs.NamingLemmas.{are_named}
use Rattle.esto_derive.proofs.ReasonLemmas.{behind_equal, fact_has_line}
use Rattle.esto_derive.proofs.StateLemmas.{line_more, state_push}
use Rattle.esto_cert.proofs.LinkLemmas.{Linked-said}
use Rattle.esto_cert.proofs.NumberLemmas.{numbered_next}
use Rattle.esto_cert.proofs.MatchLemmas.{are_like}
use Rattle.esto_derive.proofs.StepLemmas.{are_equalities, lines_link, matches, eqs, facts_fit, links_fit, facts_some}

-- ---- what a step names

-- each place is one of an entry
abbrev pub AreThere : List Entry → List ℕ → Type 0
AreThere entries places = (place : ℕ) → Contains places place → place < length entries

-- what an entry before a place claims
pub claims_in_all : (entries : List Entry) (count place : ℕ) (claim : Claim) → Claims (take count entries) place claim → Claims entries place claim
claims_in_all entries count place claim (entry, at, is) = (entry, taken_at entries count place entry at, is)

-- A rule's step: what the entries at the places, among the first few, make of a rule.
abbrev pub IsStep : List Entry → List Rule → ℕ → ℕ → List ℕ → Claim → List Bool → Type 0
IsStep entries rules count number places claim product =
    (rule : Rule) × (slice_get rules number ≡ Some rule) × FollowsBy (take count entries) number rule places claim
    × IsUnion (take count entries) places product

pub step_of : (expanded : List ExpandedFact) (rules : List Rule) (entries : List Entry) (count : ℕ) (entry : Entry) → AreDerived expanded rules entries
    → slice_get entries count ≡ Some entry → (number : ℕ) (places : List ℕ) → entry.reason ≡ Step number places
    → IsStep entries rules count number places entry.claim entry.product
step_of expanded rules entries count entry derived at number places is =
    subst (λ (it : Reason). Follows expanded rules (take count entries) entry.claim entry.product it) is (derived count entry at)

module _ (entries : List Entry) (rules : List Rule) (count number : ℕ) (places : List ℕ) (claim : Claim) (product : List Bool)
    (step : IsStep entries rules count number places claim product) where
  abbrev pub by : FollowsBy (take count entries) number step.0 places claim
  by = step.2

  few_facts : length by.facts ≡ length (body_of step.0)
  few_facts = zip_length (λ (place : ℕ) (fact : Fact Term). Claims (take count entries) place (Stated fact)) by.facts by.chosen by.stated
      ∙ sym (zip_length IsLike (body_of step.0) by.chosen (are_like (IsNamed (take count entries) places) (body_of step.0) by.chosen by.matches.0))

  pub long_enough : length (body_of step.0) ≤ length places
  long_enough = omega (arith, few_facts, ap length by.in_order, length-append by.facts by.links)

  pub facts_are : take (length (body_of step.0)) places ≡ by.facts
  facts_are = ap (λ (it : ℕ). take it places) (sym few_facts) ∙ ap (take (length by.facts)) by.in_order ∙ take_at by.facts by.links (length by.facts) refl

  pub links_are : drop (length (body_of step.0)) places ≡ by.links
  links_are = ap (λ (it : ℕ). drop it places) (sym few_facts) ∙ ap (drop (length by.facts)) by.in_order ∙ drop_at by.facts by.links (length by.facts) refl

  pub named_before : (place : ℕ) → Contains places place → place < count
  named_before place inside = omega (arith, step.3.there place inside, length-take count entries)

  pub in_places_left : (place : ℕ) → Contains by.facts place → Contains places place
  in_places_left place inside = subst (λ (it : List ℕ). Contains it place) (sym by.in_order) (Contains-append_left by.facts by.links place inside)

  pub in_places_right : (place : ℕ) → Contains by.links place → Contains places place
  in_places_right place inside = subst (λ (it : List ℕ). Contains it place) (sym by.in_order) (Contains-append_right by.facts by.links place inside)

  pub stated_in_all : AllZip (λ (place : ℕ) (fact : Fact Term). Claims entries place (Stated fact)) by.facts by.chosen
  stated_in_all = zip_weaker (λ (place : ℕ) (fact : Fact Term). Claims (take count entries) place (Stated fact))
      (λ (place : ℕ) (fact : Fact Term). Claims entries place (Stated fact)) by.facts by.chosen
      (λ place fact inside states. claims_in_all entries count place (Stated fact) states) by.stated

  pub equalities_in_all : (place : ℕ) → Contains by.links place → IsEquality entries place
  equalities_in_all place inside =
      let its = by.equalities place inside in (its.0, its.1, claims_in_all entries count place (Same its.0 its.1) its.2)

  pub alike : AllZip IsLike (body_of step.0) by.chosen
  alike = are_like (IsNamed (take count entries) places) (body_of step.0) by.chosen by.matches.0

  -- an equality that is named is named among the links
  by_links : (s t : Term) → IsNamed (take count entries) places (Same s t) → IsNamed entries by.links (Same s t)
  by_links s t (place, inside, claims_it) =
      elim (Contains-append_cases by.facts by.links place (subst (λ (it : List ℕ). Contains it place) by.in_order inside)) [
        | inl among ↦ (let found = zip_left (λ (place : ℕ) (fact : Fact Term). Claims (take count entries) place
            (Stated fact)) by.facts by.chosen by.stated place among in
            absurd (apart place found.0 s t found.2 claims_it))
        | inr among ↦ (place, among, claims_in_all entries count place (Same s t) claims_it)
      ]
    where
      apart : (place : ℕ) (fact : Fact Term) (s t : Term) → Claims (take count entries) place (Stated fact) → Claims (take count entries) place (Same s t) → ⊥
      apart place fact s t (entry, at, is) (other, other_at, other_is) =
          let same : entry ≡ other = same_Some entry other (sym at ∙ other_at) in
          let wrong : Stated fact ≡ Same s t = sym is ∙ ap (λ (it : Entry). it.claim) same ∙ other_is in cc

  pub fits_by_links : Fits (Linked (IsNamed entries by.links)) (terms_of (body_of step.0)) (terms_of by.chosen)
  fits_by_links = zip_weaker (Linked (IsNamed (take count entries) places)) (Linked (IsNamed entries by.links)) _ _
      (λ s t inside linked. Linked-said by_links s t linked) by.matches.1

-- ---- the line of an entry

less_one : (number : ℕ) → number + 1 - 1 ≡ number
less_one number = omega arith

module _ (case : Case) (entries : List Entry) (used : List Bool) (basis : IsBasis case entries used) (lines : List (List ℕ)) (written : Written)
    (state : IsState case entries used lines written) where
  -- the lines of a used entry stand for it and for what it claims
  pub both_at : (place : ℕ) → place < length lines → Has used place → (claim : Claim) → Claims entries place claim
      → (own : List ℕ) × (slice_get lines place ≡ Some own) × StandFor state.claims own claim × AreOwn entries state.places place own
  both_at place within has claim (entry, at, is) =
      let (own, own_at) = thing_at lines place within in
      let (stands, owned) = state.stand place entry own at has own_at in
      (own, own_at, subst (StandFor state.claims own) is stands, owned)

  pub stand_at : (place : ℕ) → place < length lines → Has used place → (claim : Claim) → Claims entries place claim
      → (own : List ℕ) × (slice_get lines place ≡ Some own) × StandFor state.claims own claim
  stand_at place within has claim claims_it =
      let (own, own_at, stands, owned) = both_at place within has claim claims_it in (own, own_at, stands)

  pub fact_lines : (place : ℕ) (entry : Entry) → slice_get entries place ≡ Some entry → (fact : Fact Term) → entry.claim ≡ Stated fact
      → HasLine entry.reason
  fact_lines = fact_has_line case.expanded case.rules entries basis.derived

  module _ (entry : Entry) (at : slice_get entries (length lines) ≡ Some entry) (has : Has used (length lines)) where
    named_used : (place : ℕ) → Contains (named_by entry.reason) place → Has used place
    named_used = basis.closed (length lines) entry at has

    follows : (reason : Reason) → entry.reason ≡ reason → Follows case.expanded case.rules (take (length lines) entries) entry.claim entry.product reason
    follows reason is =
        subst (λ (it : Reason). Follows case.expanded case.rules (take (length lines) entries) entry.claim entry.product it) is
        (basis.derived (length lines) entry at)

    abbrev pub Goes : Written → List ℕ → Type 0
    Goes new own = IsState case entries used (lines ++ own ∷ []) new

    pub expanded_goes : (atom place : ℕ) → entry.reason ≡ Expanded atom place → atom + 1 ≤ greatest_u64 → place + 1 ≤ greatest_u64 → (new : Written)
        → new.text ≡ written.text ++ (line_text (line.Expanded (atom + 1) (place + 1)) ++ codes "\n") → new.count ≡ written.count + 1
        → (own : List ℕ) → own ≡ written.count ∷ [] → Goes new own
    expanded_goes atom place is fits fits_too new text count own own_is =
        let (fact, inside, atom_is, place_is, claim_is, has_atom) = follows (Expanded atom place) is in
        let its : Line = line.Expanded (atom + 1) (place + 1) in
        let may : MayClaim case state.claims its entry.claim = (
          fact,
          inside,
          (
            ap (λ (it : ℕ). it + 1) (sym atom_is),
            ap (λ (it : ℕ). it + 1) (sym place_is),
            subst (Has case.set) (sym atom_is) (basis.within (length lines) entry at has atom ((has_atom atom).1 refl)),
          ),
          claim_is,
        ) in
        line_more case entries used lines written state entry at own has (subst HasLine (sym is) tt) (basis.within (length lines) entry at has) its
        (fits, fits_too) may (subst (λ (it : Reason). SaysReason entries state.places it its) (sym is) refl) new text count own_is

    module _ (number : ℕ) (places : List ℕ) (is : entry.reason ≡ Step number places) where
      step : IsStep entries case.rules (length lines) number places entry.claim entry.product
      step = follows (Step number places) is

      both : (place : ℕ) → Contains places place → (claim : Claim) → Claims entries place claim
          → (own : List ℕ) × (slice_get lines place ≡ Some own) × StandFor state.claims own claim × AreOwn entries state.places place own
      both place inside =
          both_at place (named_before entries case.rules (length lines) number places entry.claim entry.product step place inside)
          (named_used place (subst (λ (it : Reason). Contains (named_by it) place) (sym is) inside))

      stands : (place : ℕ) → Contains places place → (claim : Claim) → Claims entries place claim
          → (own : List ℕ) × (slice_get lines place ≡ Some own) × StandFor state.claims own claim
      stands place inside claim claims_it =
          let (own, own_at, stand, owned) = both place inside claim claims_it in (own, own_at, stand)

      abbrev pub StepGoes : Rule → Type 0
      StepGoes rule =
          body_of rule ≢ [] → (facts links : List ℕ) → facts ≡ take (length (body_of rule)) places → links ≡ drop (length (body_of rule)) places
          → (linked : List ℕ) → AddsNew [] (lines_at lines links) linked → (at_place : ℕ)
          → ((chosen : List (Fact Term)) → AllZip (λ (place : ℕ) (fact : Fact Term). Claims entries place (Stated fact)) facts chosen
          → made_at at_place number rule (match_map (body_of rule) chosen) ≡ Some entry.claim)
          → number + 1 ≤ greatest_u64 → at_place ≤ greatest_u64 → length state.claims ≤ greatest_u64 → (new : Written)
          → new.text ≡ written.text ++ (line_text (line.Step (number + 1) at_place (map (λ line. line + 1) (lines_at lines facts)) (map
          (λ line. line + 1) linked))
          ++ codes "\n") → new.count ≡ written.count + 1 → (own : List ℕ) → own ≡ written.count ∷ [] → Goes new own

      step_goes_on : StepGoes step.0
      step_goes_on some facts links facts_is links_is linked adds at_place made fits fits_too few new text count own own_is =
          let facts_same : facts ≡ step.2.facts = facts_is ∙ facts_are entries case.rules (length lines) number places entry.claim entry.product step in
          let links_same : links ≡ step.2.links = links_is ∙ links_are entries case.rules (length lines) number places entry.claim entry.product step in
          let facts_among : (place : ℕ) → Contains facts place → Contains places place =
          subst (λ (it : List ℕ). (place : ℕ) → Contains it place → Contains places place) (sym facts_same)
          (in_places_left entries case.rules (length lines) number places entry.claim entry.product step) in
          let links_among : (place : ℕ) → Contains links place → Contains places place =
          subst (λ (it : List ℕ). (place : ℕ) → Contains it place → Contains places place) (sym links_same)
          (in_places_right entries case.rules (length lines) number places entry.claim entry.product step) in
          let stated : AllZip (λ (place : ℕ) (fact : Fact Term). Claims entries place (Stated fact)) facts step.2.chosen =
          subst (λ (it : List ℕ). AllZip (λ (place : ℕ) (fact : Fact Term). Claims entries place (Stated fact)) it step.2.chosen) (sym facts_same)
          (stated_in_all entries case.rules (length lines) number places entry.claim entry.product step) in
          let equalities : (place : ℕ) → Contains links place → IsEquality entries place =
          subst (λ (it : List ℕ). (place : ℕ) → Contains it place → IsEquality entries place) (sym links_same)
          (equalities_in_all entries case.rules (length lines) number places entry.claim entry.product step) in
          let like : AllZip IsLike (body_of step.0) step.2.chosen = alike entries case.rules (length lines) number places entry.claim entry.product step in
          let fit : Fits (Linked (IsNamed entries links)) (terms_of (body_of step.0)) (terms_of step.2.chosen) =
          subst (λ (it : List ℕ). Fits (Linked (IsNamed entries it)) (terms_of (body_of step.0)) (terms_of step.2.chosen)) (sym links_same)
          (fits_by_links entries case.rules (length lines) number places entry.claim entry.product step) in
          let in_order : facts ++ links ≡ places = ap (λ (it : List ℕ). it ++ links) facts_same
          ∙ ap (λ (it : List ℕ). step.2.facts ++ it) links_same ∙ sym step.2.in_order in
          step_line some facts links in_order facts_among links_among linked adds at_place fits fits_too few stated equalities like fit
          (made step.2.chosen stated) new text count own own_is
        where
          step_line : body_of step.0 ≢ [] → (facts links : List ℕ) → facts ++ links ≡ places → ((place : ℕ) → Contains facts place → Contains places place)
              → ((place : ℕ) → Contains links place → Contains places place) → (linked : List ℕ) → AddsNew [] (lines_at lines links) linked → (at_place : ℕ)
              → number + 1 ≤ greatest_u64 → at_place ≤ greatest_u64 → length state.claims ≤ greatest_u64
              → AllZip (λ (place : ℕ) (fact : Fact Term). Claims entries place (Stated fact)) facts step.2.chosen
              → ((place : ℕ) → Contains links place → IsEquality entries place) → AllZip IsLike (body_of step.0) step.2.chosen
              → Fits (Linked (IsNamed entries links)) (terms_of (body_of step.0)) (terms_of step.2.chosen)
              → made_at at_place number step.0 (match_map (body_of step.0) step.2.chosen) ≡ Some entry.claim → (new : Written)
              → new.text ≡ written.text
              ++ (line_text (line.Step (number + 1) at_place (map (λ line. line + 1) (lines_at lines facts)) (map (λ line. line + 1) linked)) ++ codes "\n")
              → new.count ≡ written.count + 1 → (own : List ℕ) → own ≡ written.count ∷ [] → Goes new own
          step_line some facts links in_order facts_among links_among linked adds at_place fits fits_too few stated equalities like fit made new text count
              own own_is =
              let its : Line = line.Step (number + 1) at_place (map (λ line. line + 1) (lines_at lines facts)) (map (λ line. line + 1) linked) in
              let found = eqs state.claims lines entries places stands facts links step.2.chosen
              (body_of step.0) facts_among links_among stated equalities linked adds
              like fit in
              let may : MayClaim case state.claims its entry.claim = (
                step.0,
                numbered_next case.rules number ∙ step.1,
                (
                  step.2.chosen,
                  found.equalities,
                  matches state.claims lines entries places stands facts links step.2.chosen (body_of step.0) facts_among links_among stated equalities linked
                      adds like fit,
                  ap (λ (it : ℕ). made_at at_place it step.0 (match_map (body_of step.0) step.2.chosen)) (less_one number) ∙ made,
                ),
              ) in
              let readable : IsReadable its = (
                fits,
                fits_too,
                facts_some state.claims lines entries places stands facts links step.2.chosen (body_of step.0) facts_among links_among stated equalities linked
                    adds like fit some,
                facts_fit state.claims lines entries places stands facts links step.2.chosen (body_of step.0) facts_among links_among stated equalities linked
                    adds like fit few,
                links_fit state.claims lines entries places stands facts links step.2.chosen (body_of step.0) facts_among links_among stated equalities linked
                    adds like fit few,
              ) in
              let named : AreNamedBy entries state.places places (map (λ line. line + 1) (lines_at lines facts)) (map (λ line. line + 1) linked) =
              subst (λ (it : List ℕ). AreNamedBy entries state.places it (map (λ line. line + 1) (lines_at lines facts)) (map (λ line. line + 1) linked))
              in_order (are_named state.claims state.places lines entries places fact_lines both facts links facts_among links_among step.2.chosen stated
              equalities linked adds) in
              line_more case entries used lines written state entry at own has (subst HasLine (sym is) tt) (basis.within (length lines) entry at has) its
              readable may (subst (λ (it : Reason). SaysReason entries state.places it its) (sym is) (at_place, _, _, refl, named)) new text count own_is

      pub step_goes : (rule : Rule) → slice_get case.rules number ≡ Some rule → StepGoes rule
      step_goes rule rule_at = subst StepGoes (same_Some step.0 rule (sym step.1 ∙ rule_at)) step_goes_on

    module _ (places : List ℕ) (is : entry.reason ≡ Equal places) where
      chain_both : (place : ℕ) → Contains places place → (claim : Claim) → Claims entries place claim
          → (own : List ℕ) × (slice_get lines place ≡ Some own) × StandFor state.claims own claim × AreOwn entries state.places place own
      chain_both place inside =
          both_at place
          (omega (arith, ((follows (Equal places) is).5.there place inside), length-take (length lines) entries))
          (named_used place (subst (λ (it : Reason). Contains (named_by it) place) (sym is) inside))

      chain_stands : (place : ℕ) → Contains places place → (claim : Claim) → Claims entries place claim
          → (own : List ℕ) × (slice_get lines place ≡ Some own) × StandFor state.claims own claim
      chain_stands place inside claim claims_it =
          let (own, own_at, stand, owned) = chain_both place inside claim claims_it in (own, own_at, stand)

      -- each place of a chain is one of an equality
      of_chain : (some : List ℕ) (term other : Term) → IsChain (take (length lines) entries) some term other → (place : ℕ) → Contains some place
          → IsEquality entries place
      of_chain [] term other chain place inside = absurd (Contains-nil place inside)
      of_chain (first ∷ some) term other (next, says, rest) place inside = elim (Contains-cases first some place inside) [
        | inl same ↦ subst (IsEquality entries) same (elim says [
          | inl on ↦ (term, next, claims_in_all entries (length lines) first (Same term next) on)
          | inr on ↦ (next, term, claims_in_all entries (length lines) first (Same next term) on)
        ])
        | inr later ↦ of_chain some next other rest place later
      ]

      module _ (linked : List ℕ) (adds : AddsNew [] (lines_at lines places) linked)
          (equalities : (place : ℕ) → Contains places place → IsEquality entries place) where
        by_line : (place : ℕ) → Contains places place → (s t : Term) → Claims (take (length lines) entries) place (Same s t)
            → Linked (AtLines state.claims linked) s t
        by_line place inside s t on =
            lines_link state.claims lines entries places chain_stands places (λ its there. there) equalities linked adds place inside s t
            (claims_in_all entries (length lines) place (Same s t) on)

        by_chain : (some : List ℕ) (term other : Term) → ((place : ℕ) → Contains some place → Contains places place)
            → IsChain (take (length lines) entries) some term other → Linked (AtLines state.claims linked) term other
        by_chain [] term other among chain = subst (Linked (AtLines state.claims linked) term) chain here
        by_chain (first ∷ some) term other among (next, says, rest) =
            Linked-then term next other (elim says [
              | inl on ↦ by_line first (among first (Contains-head first some)) term next on
              | inr on ↦ Linked-back next term (by_line first (among first (Contains-head first some)) next term on)
            ]) (by_chain some next other (λ place inside. among place (Contains-rest first some place inside)) rest)

      -- what stands for the equalities of a chain stands for the entry
      chain_owns : (linked : List ℕ) → AddsNew [] (lines_at lines places) linked → ((place : ℕ) → Contains places place → IsEquality entries place)
          → AreOwn entries state.places (length lines) linked
      chain_owns linked adds equalities = record {
        all = λ other behind.
            let (named, inside, its_behind) = behind_equal entries (length lines) other entry places at is behind in
            let (own, own_at, owned) = owns named inside in
            let (line, own_inside, line_at) = owned.all other its_behind in (
              line,
              (adds line).1 (inr (Contains-flat (λ place. own_lines (slice_get lines place)) places named line inside
                  (subst (λ (it : List ℕ). Contains it line) (sym (ap own_lines own_at)) own_inside))),
              line_at,
            );
        only = λ line inside.
            let (named, named_inside, own_inside) = Contains-flat_from (λ place. own_lines (slice_get lines place)) places line (from_places line inside) in
            let (own, own_at, owned) = owns named named_inside in
            let (other, behind, line_at) = owned.only line (subst (λ (it : List ℕ). Contains it line) (ap own_lines own_at) own_inside) in
            (other, through at is named_inside behind, line_at);
      }
        where
          owns : (place : ℕ) → Contains places place → (own : List ℕ) × (slice_get lines place ≡ Some own) × AreOwn entries state.places place own
          owns place inside =
              let (left, right, claims_it) = equalities place inside in
              let (own, own_at, stand, owned) = chain_both place inside (Same left right) claims_it in (own, own_at, owned)

          from_places : (line : ℕ) → Contains linked line → Contains (lines_at lines places) line
          from_places line inside = elim ((adds line).0 inside) [ inl none ↦ absurd (Contains-nil line none) | inr it ↦ it ]

      pub chain_goes : (linked : List ℕ) → AddsNew [] (lines_at lines places) linked → Goes written linked
      chain_goes linked adds =
          let (some, term, other, claim_is, chain, union) = follows (Equal places) is in
          let equalities : (place : ℕ) → Contains places place → IsEquality entries place = of_chain places term other chain in
          state_push case entries used lines written state entry at linked (λ again has_line. subst HasLine is has_line)
          (λ again. (
            subst (StandFor state.claims linked) (sym claim_is) (
              are_equalities state.claims lines entries places chain_stands places (λ its there. there) equalities linked adds,
              by_chain linked adds equalities places term other (λ its there. there) chain,
            ),
            chain_owns linked adds equalities,
          ))
