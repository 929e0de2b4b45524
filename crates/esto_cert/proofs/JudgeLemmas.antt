-- What is judged of lines is right.
use Rattle.std.proofs.Common.{◌≡◌, inl, inr, ◌==◌, ℕ, ◌+◌, ◌-◌, ◌<◌, ◌≤◌, Bool, true, false, cond, List, [], ◌∷◌, take, map, length, get_or, slice_get}
use Rattle.std.proofs.Common.{option_map, Option, Some, None, Contains, subst, refl, sym, ap, ◌∙◌}
use Rattle.std.specs.List.{AllZip}
use Rattle.std.proofs.lemmas.List.{take_all}
use Rattle.std.proofs.lemmas.List.Elements.{Contains-append_cases}
use Rattle.std.proofs.lemmas.Option.{same_Some, slice_get-map}
use Rattle.esto_term.proofs.ListLemmas.{Contains-nil, Contains-cases}
use Rattle.esto_term.proofs.PlaceLemmas.{take-item}
use Rattle.esto_term.proofs.ZipLemmas.{zip_weaker}
use Rattle.esto_term.specs.declared.term.Term.{Term}
use Rattle.esto_constraint.specs.Constraints.{rule_of, rules_of}
use Rattle.esto_constraint.specs.declared.rule.Constraint.{Constraint}
use Rattle.esto_semantics.specs.Facts.{terms_of}
use Rattle.esto_semantics.specs.Rules.{Rule, body_of}
use Rattle.esto_semantics.specs.declared.fact.Fact.{Fact}
use Rattle.esto_chase_laws.specs.Worlds.{Linked}
use Rattle.esto_chase_laws.specs.WorldMatches.{taken, match_map}
use Rattle.esto_chase_laws.specs.declared.entry.Claim.{Claim}
use Rattle.esto_cert.specs.Certificates.{Case, numbered, made_at, Matches}
use Rattle.esto_cert.specs.Judging.{IsJudged, judged_of}
use Rattle.esto_cert.specs.Linking.{IsAmong, StandsAsOne}
use Rattle.esto_cert.specs.Matching.{IsFound}
use Rattle.esto_cert.specs.declared.line.Line.TheVariants.{Step}
use Rattle.esto_cert.specs.declared.linking.Equality.{Equality}
use Rattle.esto_cert.specs.declared.matching.Found.{Found}

-- ---- a walk that has met nothing

module _ {X : Type 0} (P : X → Type 0) (items : List X) (place : ℕ) (none : (thing : X) → Contains (take place items) thing → ¬ (P thing)) where
  pub none_more : (item : X) → place < length items → item ≡ get_or items place item → ¬ (P item)
      → (thing : X) → Contains (take (place + 1) items) thing → ¬ (P thing)
  none_more item within is wrong thing inside holds =
      elim (Contains-append_cases (take place items) (item ∷ []) thing
      (subst (λ (it : List X). Contains it thing) (take-item items place item within is) inside)) [
        | inl earlier ↦ none thing earlier holds
        | inr last ↦ elim (Contains-cases item [] thing last) [
          | inl same ↦ wrong (subst P (sym same) holds)
          | inr nothing ↦ absurd (Contains-nil thing nothing)
        ]
      ]

  pub none_all : length items ≤ place → (thing : X) → Contains items thing → ¬ (P thing)
  none_all past thing inside = none thing (subst (λ (it : List X). Contains it thing) (sym (take_all place items past)) inside)

-- ---- steps

numbered-map : {A B : Type 0} (f : A → B) (items : List A) (number : ℕ) → numbered (map f items) number ≡ option_map f (numbered items number)
numbered-map f items number = by (number == 0)
  where
    by : (zero : Bool) → cond zero None (slice_get (map f items) (number - 1)) ≡ option_map f (cond zero None (slice_get items (number - 1)))
    by true = refl
    by false = slice_get-map f items (number - 1)

pub numbered_rule : (rules : List Constraint) (number : ℕ) (rule : Constraint) → numbered rules number ≡ Some rule
    → numbered (rules_of rules) number ≡ Some (rule_of rule)
numbered_rule rules number rule is = numbered-map rule_of rules number ∙ ap (option_map rule_of) is

-- the match that is found is the one of the numbers
module _ (claims : List Claim) (body : List (Fact Term)) (facts links : List ℕ) (found : Found) (is : IsFound claims body facts links (Some found))
    (chosen : List (Fact Term)) (equalities : List Equality) (matches : Matches claims body facts links chosen equalities) where
  pub same_facts : chosen ≡ found.chosen
  same_facts = same_Some chosen found.chosen (sym matches.stated ∙ is.1.stated)

  pub same_links : equalities ≡ is.0
  same_links = same_Some equalities is.0 (sym matches.named ∙ is.1.named)

pub maps_as : (claims : List Claim) (body : List (Fact Term)) (facts links : List ℕ) (found : Found) → IsFound claims body facts links (Some found)
    → taken found.from found.to ≡ match_map body found.chosen
maps_as claims body facts links found is =
    ap (λ (it : List Term). taken it found.to) is.3 ∙ ap (λ (it : List Term). taken (terms_of body) it) is.4

module _ (rules : List Rule) (number place : ℕ) (rule : Rule) (claims : List Claim) (body : List (Fact Term)) (facts links : List ℕ) (option : Option Found)
    (found : Found) (numbered_is : numbered rules number ≡ Some rule) (body_is : body ≡ body_of rule) (is : IsFound claims body facts links option)
    (some : option ≡ Some found) (made : made_at place (number - 1) rule (taken found.from found.to) ≡ None) where
  found_is : IsFound claims (body_of rule) facts links (Some found)
  found_is = subst (λ (it : List (Fact Term)). IsFound claims it facts links (Some found)) body_is
      (subst (λ (it : Option Found). IsFound claims body facts links it) some is)

  pub makes_nothing : (claim : Claim) (other : Rule) → numbered rules number ≡ Some other → (chosen : List (Fact Term)) (equalities : List Equality)
      → Matches claims (body_of other) facts links chosen equalities → made_at place (number - 1) other (match_map (body_of other) chosen) ≡ Some claim → ⊥
  makes_nothing claim other other_is chosen equalities matches makes =
      let same : other ≡ rule = same_Some other rule (sym other_is ∙ numbered_is) in
      let theirs : Matches claims (body_of rule) facts links chosen equalities = subst
      (λ (it : Rule). Matches claims (body_of it) facts links chosen equalities)
      same matches in
      let chosen_is : chosen ≡ found.chosen = same_facts claims (body_of rule) facts links found found_is chosen equalities theirs in
      let m : match_map (body_of other) chosen ≡ taken found.from found.to =
      ap (λ (it : Rule). match_map (body_of it) chosen) same ∙ ap (match_map (body_of rule)) chosen_is
      ∙ sym (maps_as claims (body_of rule) facts links found found_is) in
      let nothing : made_at place (number - 1) other (match_map (body_of other) chosen) ≡ None =
      ap (λ (it : Rule). made_at place (number - 1) it (match_map (body_of other) chosen)) same ∙ ap (made_at place (number - 1) rule) m ∙ made in
      cc

-- a step whose rule has no match among the named lines makes nothing
pub unmatched : (rules : List Rule) (number : ℕ) (rule : Rule) (claims : List Claim) (body : List (Fact Term)) (facts links : List ℕ) (option : Option Found)
    → numbered rules number ≡ Some rule → body ≡ body_of rule → IsFound claims body facts links option → option ≡ None → (other : Rule)
    → numbered rules number ≡ Some other → (chosen : List (Fact Term)) (equalities : List Equality)
    → ¬ (Matches claims (body_of other) facts links chosen equalities)
unmatched rules number rule claims body facts links option numbered_is body_is is none other other_is chosen equalities matches =
    let same : other ≡ rule = same_Some other rule (sym other_is ∙ numbered_is) in
    subst (λ (it : Option Found). IsFound claims body facts links it) none is chosen equalities
    (subst (λ (it : List (Fact Term)). Matches claims it facts links chosen equalities) (ap body_of same ∙ sym body_is) matches)

-- the line of a step whose match is found makes what the rule makes there, or nothing
module _ (case : Case) (claims : List Claim) (number place : ℕ) (facts links : List ℕ) (rule : Rule) (body : List (Fact Term)) (option : Option Found)
    (found : Found) (numbered_is : numbered case.rules number ≡ Some rule) (body_is : body ≡ body_of rule) (is : IsFound claims body facts links option)
    (some : option ≡ Some found) where
  its_match : IsFound claims (body_of rule) facts links (Some found)
  its_match = subst (λ (it : List (Fact Term)). IsFound claims it facts links (Some found)) body_is
      (subst (λ (it : Option Found). IsFound claims body facts links it) some is)

  pub from_is : found.from ≡ terms_of (body_of rule)
  from_is = its_match.3

  pub step_judged : IsJudged case claims (Step number place facts links) (judged_of (made_at place (number - 1) rule (taken found.from found.to)))
  step_judged = by (made_at place (number - 1) rule (taken found.from found.to)) refl
    where
      by : (made : Option Claim) → made_at place (number - 1) rule (taken found.from found.to) ≡ made
          → IsJudged case claims (Step number place facts links) (judged_of made)
      by None made_is = (
        (λ claim it. makes_nothing case.rules number place rule claims body facts links option found numbered_is body_is is some made_is claim
            it.0 it.1 it.2.0 it.2.1 it.2.2 it.2.3),
        (λ wrong. wrong),
      )
      by (Some claim) made_is = (
        rule,
        numbered_is,
        (
          found.chosen,
          its_match.0,
          its_match.1,
          ap (made_at place (number - 1) rule) (sym (maps_as claims (body_of rule) facts links found its_match)) ∙ made_is,
        ),
      )

-- ---- the last line

module _ (claims : List Claim) (body shown : List (Fact Term)) (facts links : List ℕ) (head targets : List Term) (option : Option Found)
    (shown_is : shown ≡ body) (is : IsFound claims shown facts links option) where
  pub found_at : (its : Option Found) → option ≡ its → IsFound claims body facts links its
  found_at its same = subst (λ (it : List (Fact Term)). IsFound claims it facts links its) shown_is
      (subst (λ (it : Option Found). IsFound claims shown facts links it) same is)

  pub no_end : option ≡ None → (chosen : List (Fact Term)) (equalities : List Equality) → ¬ (Matches claims body facts links chosen equalities)
  no_end none = found_at None none

  module _ (found : Found) (some : option ≡ Some found) (renamings : List Equality) (met : List Term) (renamings_is : renamings ≡ found.renamings)
      (met_is : met ≡ map (taken found.from found.to) head) where
    it_is : IsFound claims body facts links (Some found)
    it_is = found_at (Some found) some

    met_as : met ≡ map (match_map body found.chosen) head
    met_as = met_is ∙ ap (λ (it : Term → Term). map it head) (maps_as claims body facts links found it_is)

    one_of : (term other : Term) → StandsAsOne renamings term other → Linked (IsAmong found.chosen it_is.0) term other
    one_of term other same = (it_is.2 term other).1 (subst (λ (it : List Equality). StandsAsOne it term other) renamings_is same)

    of_one : (term other : Term) → Linked (IsAmong found.chosen it_is.0) term other → StandsAsOne renamings term other
    of_one term other linked = subst (λ (it : List Equality). StandsAsOne it term other) (sym renamings_is) ((it_is.2 term other).0 linked)

    pub may_end : AllZip (StandsAsOne renamings) targets met → (chosen : List (Fact Term)) × (equalities : List Equality)
        × Matches claims body facts links chosen equalities × AllZip (Linked (IsAmong chosen equalities)) targets (map (match_map body chosen) head)
    may_end all = (
      found.chosen,
      it_is.0,
      it_is.1,
      subst (λ (it : List Term). AllZip (Linked (IsAmong found.chosen it_is.0)) targets it) met_as
          (zip_weaker (StandsAsOne renamings) (Linked (IsAmong found.chosen it_is.0)) targets met (λ term other _ same. one_of term other same) all),
    )

    pub may_not_end : ¬ (AllZip (StandsAsOne renamings) targets met) → (chosen : List (Fact Term)) (equalities : List Equality)
        → Matches claims body facts links chosen equalities → ¬ (AllZip (Linked (IsAmong chosen equalities)) targets (map (match_map body chosen) head))
    may_not_end wrong chosen equalities matches all =
        let facts_are : chosen ≡ found.chosen = same_facts claims body facts links found it_is chosen equalities matches in
        let links_are : equalities ≡ it_is.0 = same_links claims body facts links found it_is chosen equalities matches in
        let here : AllZip (Linked (IsAmong found.chosen it_is.0)) targets (map (match_map body found.chosen) head) =
        subst (λ (it : List (Fact Term)). AllZip (Linked (IsAmong it it_is.0)) targets (map (match_map body it) head)) facts_are
        (subst (λ (it : List Equality). AllZip (Linked (IsAmong chosen it)) targets (map (match_map body chosen) head)) links_are all) in
        wrong (subst (λ (it : List Term). AllZip (StandsAsOne renamings) targets it) (sym met_as)
        (zip_weaker (Linked (IsAmong found.chosen it_is.0)) (StandsAsOne renamings) targets _ (λ term other _ linked. of_one term other linked) here))
