-- Whatever bytes have a verdict as a certificate.
use Rattle.std.proofs.Common.{◌≡◌, ◌⊎◌, inl, inr, ◌==◌, ℕ, ◌+◌, ◌-◌, List, [], ◌∷◌, ◌++◌, map, Contains, length, Option, Some, None, refl, sym, ap, subst, ◌∙◌}
use Rattle.std.proofs.Common.{false, slice_index_or}
use Rattle.std.proofs.lemmas.List.{append-nil, append_assoc}
use Rattle.std.specs.List.{AllZip, slice_split}
use Rattle.std.proofs.lemmas.Option.{same_Some}
use Rattle.std.proofs.lemmas.Bool.{cases_eq, cases_Bool}
use Rattle.esto_cert.specs.Certificates.{Case, IsNamed, Matches, MayClaim, MayEnd, equalities_at, facts_at, made_at, numbered}
use Rattle.esto_cert.specs.Judging.{Decides, IsJudgedText, Verdict, after_end}
use Rattle.esto_cert.specs.Lines.{line_of}
use Rattle.esto_cert.specs.Linking.{IsAmong, Tells, standing}
use Rattle.esto_cert.specs.declared.judging.Judged.TheVariants.{Claims, Ends, Refused}
use Rattle.esto_cert.specs.declared.line.Line.{Line}
use Rattle.esto_cert.specs.declared.line.Line.TheVariants.{Expanded, Step, Match}
use Rattle.esto_cert.specs.declared.linking.Equality.{Equality}
use Rattle.esto_cert.proofs.LinkLemmas.{tells_more, tells_nothing}
use Rattle.esto_semantics.proofs.TermLemmas.{decided_term}
use Rattle.esto_semantics.specs.Facts.{terms_of}
use Rattle.esto_semantics.specs.Rules.{Rule, body_of}
use Rattle.esto_semantics.specs.declared.fact.Fact.{Fact}
use Rattle.esto_term.proofs.ChoiceLemmas.{Decided, decided_as, decided_both, decided_in}
use Rattle.esto_term.proofs.ListLemmas.{Contains-head, Contains-rest}
use Rattle.esto_term.specs.declared.term.Term.{Term}
use Rattle.esto_chase_laws.specs.WorldMatches.{IsMatch, match_map, taken}
use Rattle.esto_chase_laws.specs.Worlds.{Linked}
use Rattle.esto_chase_laws.specs.declared.entry.Claim.{Claim}
use Rattle.esto_chase_laws.specs.declared.entry.Claim.TheVariants.{Fact as Stated}
use Rattle.esto_term.proofs.DecisionLemmas.{decided_three}

-- ---- which terms are linked

-- the renamings after the equalities that are left
tells_after : (facts : List (Fact Term)) (done rest renamings : List Equality) → Tells renamings (IsAmong facts done)
    → (all : List Equality) × Tells all (IsAmong facts (done ++ rest))
tells_after facts done [] renamings tells = (renamings, subst (λ it. Tells renamings (IsAmong facts it)) (sym (append-nil done)) tells)
tells_after facts done (last ∷ rest) renamings tells =
    let all = tells_after facts (done ++ last ∷ []) rest
    (renamings ++ record { left = standing renamings last.left; right = standing renamings last.right } ∷ [])
    (tells_more renamings done facts last tells) in
    (all.0, subst (λ it. Tells all.0 (IsAmong facts it)) (append_assoc done (last ∷ []) rest) all.1)

linked_decided : (facts : List (Fact Term)) (equalities : List Equality) (term other : Term) → Decided (Linked (IsAmong facts equalities) term other)
linked_decided facts equalities term other =
    let all = tells_after facts [] equalities [] (tells_nothing facts) in
    decided_as ((all.1 term other).1, (all.1 term other).0) (decided_term (standing all.0 term) (standing all.0 other))

zip_decided : {X Y : Type 0} (R : X → Y → Type 0) (xs : List X) (ys : List Y) → ((x : X) (y : Y) → Contains xs x → Contains ys y → Decided (R x y))
    → Decided (AllZip R xs ys)
zip_decided R [] [] decide = inl tt
zip_decided R [] (y ∷ ys) decide = inr (λ all. all)
zip_decided R (x ∷ xs) [] decide = inr (λ all. all)
zip_decided R (x ∷ xs) (y ∷ ys) decide =
    decided_both (decide x y (Contains-head x xs) (Contains-head y ys))
    (zip_decided R xs ys (λ one other inside within. decide one other (Contains-rest x xs one inside) (Contains-rest y ys other within)))

-- ---- matches

module _ (chosen : List (Fact Term)) (equalities : List Equality) where
  all_linked : (terms others : List Term) → Decided (AllZip (Linked (IsAmong chosen equalities)) terms others)
  all_linked terms others = zip_decided (Linked (IsAmong chosen equalities)) terms others (λ term other _ _. linked_decided chosen equalities term other)

  match_decided : (body : List (Fact Term)) → Decided (IsMatch (IsAmong chosen equalities) body chosen)
  match_decided body =
      decided_both
      (zip_decided (λ (atom : Fact Term) (fact : Fact Term).
      IsAmong chosen equalities (Stated fact) × (fact.relation ≡ atom.relation) × (length fact.terms ≡ length atom.terms)) body chosen
      (λ atom fact _ inside. decided_three (inl inside) (cases_eq fact.relation atom.relation)
      (cases_eq (length fact.terms) (length atom.terms))))
      (all_linked (terms_of chosen) (map (taken (terms_of body) (terms_of chosen)) (terms_of body)))

-- the match that the numbers name, or there is none
abbrev AnyMatch : List Claim → List (Fact Term) → List ℕ → List ℕ → Type 0
AnyMatch claims body facts links = (chosen : List (Fact Term)) × (equalities : List Equality) × Matches claims body facts links chosen equalities

matches_decided : (claims : List Claim) (body : List (Fact Term)) (facts links : List ℕ) → Decided (AnyMatch claims body facts links)
matches_decided claims body facts links = by (facts_at claims facts) refl (equalities_at claims links) refl
  where
    by : (stated : Option (List (Fact Term))) → facts_at claims facts ≡ stated → (named : Option (List Equality)) → equalities_at claims links ≡ named
        → Decided ((chosen : List (Fact Term)) × (equalities : List Equality) × Matches claims body facts links chosen equalities)
    by None none named _ = inr (λ found. let is = found.2.stated in absurd (cc))
    by (Some chosen) _ None none = inr (λ found. let is = found.2.named in absurd (cc))
    by (Some chosen) stated (Some equalities) named = elim (match_decided chosen equalities body) [
      | inl fits ↦ inl (chosen, equalities, record { stated = stated; named = named; fits = fits })
      | inr not ↦ inr (λ found.
          let same : found.0 ≡ chosen = same_Some found.0 chosen (sym found.2.stated ∙ stated) in
          let same_too : found.1 ≡ equalities = same_Some found.1 equalities (sym found.2.named ∙ named) in
          not (subst (λ it. IsMatch (IsAmong it equalities) body it) same
          (subst (λ them. IsMatch (IsAmong found.0 them) body found.0) same_too found.2.fits)))
    ]

-- two matches by the same numbers are one
one_match : (claims : List Claim) (body : List (Fact Term)) (facts links : List ℕ) (chosen other : List (Fact Term)) (equalities others : List Equality)
    → Matches claims body facts links chosen equalities → Matches claims body facts links other others → (chosen ≡ other) × (equalities ≡ others)
one_match claims body facts links chosen other equalities others first second =
    (same_Some chosen other (sym first.stated ∙ second.stated), same_Some equalities others (sym first.named ∙ second.named))

-- ---- lines

module _ (case : Case) (claims : List Claim) where
  module _ (number place : ℕ) (facts links : List ℕ) where
    abbrev Made : Claim → Type 0
    Made = MayClaim case claims (Step number place facts links)

    module _ (rule : Rule) (at : numbered case.rules number ≡ Some rule) (chosen : List (Fact Term)) (equalities : List Equality)
        (matches : Matches claims (body_of rule) facts links chosen equalities) where
      made : (found : Option Claim) → made_at place (number - 1) rule (match_map (body_of rule) chosen) ≡ found → Decided ((claim : Claim) × Made claim)
      made (Some claim) is = inl (claim, (rule, at, (chosen, equalities, matches, is)))
      made None none = inr (λ it.
          let (claim, (other, other_at, (others, them, other_matches, is))) = it in
          let same : other ≡ rule = same_Some other rule (sym other_at ∙ at) in
          let moved : Matches claims (body_of rule) facts links others them =
          subst (λ (own : Rule). Matches claims (body_of own) facts links others them) same other_matches in
          let same_facts : others ≡ chosen = (one_match claims (body_of rule) facts links others chosen them equalities moved matches).0 in
          let nothing : made_at place (number - 1) other (match_map (body_of other) others) ≡ None =
          ap (λ (own : Rule). made_at place (number - 1) own (match_map (body_of own) others)) same
          ∙ ap (λ own. made_at place (number - 1) rule (match_map (body_of rule) own)) same_facts ∙ none in
          absurd (cc))

    with_rule : (rule : Rule) → numbered case.rules number ≡ Some rule → Decided ((claim : Claim) × Made claim)
    with_rule rule at = elim (matches_decided claims (body_of rule) facts links) [
      | inl found ↦ made rule at found.0 found.1 found.2 (made_at place (number - 1) rule (match_map (body_of rule) found.0)) refl
      | inr not ↦ inr (λ it.
          let (claim, (other, other_at, (others, them, other_matches, is))) = it in
          let same : other ≡ rule = same_Some other rule (sym other_at ∙ at) in
          not (others, them, subst (λ (own : Rule). Matches claims (body_of own) facts links others them) same other_matches))
    ]

    step_decided : Decided ((claim : Claim) × Made claim)
    step_decided = by (numbered case.rules number) refl
      where
        by : (found : Option Rule) → numbered case.rules number ≡ found → Decided ((claim : Claim) × Made claim)
        by None none = inr (λ it. let at = it.1.1 in absurd (cc))
        by (Some rule) at = with_rule rule at

  abbrev AnyClaim : Line → Type 0
  AnyClaim line = (claim : Claim) × MayClaim case claims line claim

  claim_decided : (line : Line) → Decided (AnyClaim line)
  claim_decided (Expanded atom place) =
      decided_as
      ((λ found. (Stated found.0.fact, (found.0, found.1, found.2, refl))), (λ found. (found.1.0, found.1.1, found.1.2)))
      (decided_in (IsNamed case.set atom place)
      (λ fact. decided_three (cases_eq atom (fact.atom + 1)) (cases_eq place (fact.place + 1))
      (elim (cases_Bool (slice_index_or case.set fact.atom false)) [ inl is ↦ inl is | inr not ↦ inr (λ is. absurd (cc)) ])) case.expanded)
  claim_decided (Step number place facts links) = step_decided number place facts links
  claim_decided (Match facts links) = inr (λ it. it.1)

  end_decided : (line : Line) → Decided (MayEnd case claims line)
  end_decided (Expanded atom place) = inr (λ it. it)
  end_decided (Step number place facts links) = inr (λ it. it)
  end_decided (Match facts links) = elim (matches_decided claims case.query.body facts links) [
    | inr not ↦ inr (λ it. not (it.0, it.1, it.2))
    | inl found ↦ elim (all_linked found.0 found.1 case.targets (map (match_map case.query.body found.0) case.query.head)) [
      | inl all ↦ inl (found.0, found.1, found.2, all)
      | inr not ↦ inr (λ it.
          let same = one_match claims case.query.body facts links it.0 found.0 it.1 found.1 it.2 found.2 in
          not (subst (λ own. AllZip (Linked (IsAmong own found.1)) case.targets (map (match_map case.query.body own) case.query.head)) same.0
          (subst (λ them. AllZip (Linked (IsAmong it.0 them)) case.targets (map (match_map case.query.body it.0) case.query.head)) same.1 it.3)))
    ]
  ]

-- ---- verdicts

module _ (case : Case) where
  text_judged : (claims : List Claim) (line : Option Line)
      → (((claim : Claim) × IsJudgedText case claims line (Claims claim)) ⊎ IsJudgedText case claims line Ends) ⊎ IsJudgedText case claims line Refused
  text_judged claims None = inr refl
  text_judged claims (Some line) = by (claim_decided case claims line) (end_decided case claims line)
    where
      by : Decided ((claim : Claim) × MayClaim case claims line claim) → Decided (MayEnd case claims line)
          → (((claim : Claim) × IsJudgedText case claims (Some line) (Claims claim)) ⊎ IsJudgedText case claims (Some line) Ends)
          ⊎ IsJudgedText case claims (Some line) Refused
      by (inl found) _ = inl (inl found)
      by (inr no_claim) (inl end) = inl (inr end)
      by (inr no_claim) (inr no_end) = inr ((λ claim may. no_claim (claim, may)), no_end)

  verdict_exists : (claims : List Claim) (number : ℕ) (parts : List (List ℕ)) → (verdict : Option ℕ) × Verdict case claims number parts verdict
  verdict_exists claims number [] = (Some number, refl)
  verdict_exists claims number (part ∷ []) = (Some number, refl)
  verdict_exists claims number (part ∷ next ∷ rest) = elim (text_judged claims (line_of part)) [
    | inl (inl found) ↦
        let more = verdict_exists (claims ++ found.0 ∷ []) (number + 1) (next ∷ rest) in (more.0, inl (inl (found.0, found.1, more.1)))
    | inl (inr judged) ↦ (after_end number (next ∷ rest), inl (inr (judged, refl)))
    | inr judged ↦ (Some number, inr (judged, refl))
  ]

  pub decides : (bytes : List ℕ) → (verdict : Option ℕ) × Decides case bytes verdict
  decides bytes = verdict_exists [] 1 (slice_split (λ byte. byte == 10) bytes)
