-- The least active match of a rule in a part of the facts is the least in all, and its difference the first.
use Rattle.std.proofs.Common.{◌≡◌, ◌↔◌, inl, inr, ℕ, zero, suc, ◌<◌, ◌≤◌, List, [], ◌∷◌, map, Option, None, Some, slice_get, Contains, refl, sym, ap}
use Rattle.std.proofs.Common.{◌∙◌, subst, arith}
use Rattle.std.specs.Prelude.{MatchOption}
use Rattle.std.specs.FinMap.{empty}
use Rattle.std.specs.List.{AllZip}
use Rattle.std.proofs.lemmas.Option.{same_Some}
use Rattle.esto_constraint.specs.Constraints.{rule_of, rules_of}
use Rattle.esto_constraint.specs.EncodingRules.{written}
use Rattle.esto_constraint.specs.Matches.{IsFirstBroken as IsFirstUnmet, IsLeastActive}
use Rattle.esto_constraint.specs.declared.rule.Constraint.{Constraint}
use Rattle.esto_mapping.specs.declared.catalogue.Catalogue.{Catalogue}
use Rattle.esto_query.specs.Active.{Holds}
use Rattle.esto_query.proofs.MatchLemmas.{IsMatch-agree, images_same}
use Rattle.esto_query.proofs.PlaceLemmas.{IsAtMost-cons, IsAtMost-least, IsAtMost-nil}
use Rattle.esto_relmodel.specs.Once.{StandsBefore}
use Rattle.esto_relmodel.specs.Parts.{IsPartFor}
use Rattle.esto_semantics.specs.Facts.{image}
use Rattle.esto_semantics.specs.Maps.{AreFlat, Keeps, Sends}
use Rattle.esto_semantics.specs.Matches.{IsAtMost, IsMatch}
use Rattle.esto_semantics.specs.Queries.{ConjunctiveQuery}
use Rattle.esto_semantics.specs.Rules.{Rule, IsMet, body_of}
use Rattle.esto_semantics.specs.Valuations.{Assignment, Extends, map_of}
use Rattle.esto_semantics.specs.declared.fact.Fact.{Fact}
use Rattle.esto_semantics.proofs.FactLemmas.{Sends-match, decided_fact}
use Rattle.esto_semantics.proofs.TermLemmas.{decided_term}
use Rattle.esto_semantics.proofs.ValuationLemmas.{Extends-map_of, Keeps-map_of}
use Rattle.esto_term.proofs.ChoiceLemmas.{Decided}
use Rattle.esto_term.proofs.ListLemmas.{Contains-at, Contains-cases, Contains-head, Contains-nil, Contains-rest, map_at}
use Rattle.esto_term.specs.declared.term.Term.{Term}
use Rattle.esto_term.specs.declared.term.Term.TheVariants.{Const}
use Rattle.esto_views.specs.Fragments.{views_of}
use Rattle.esto_fill.specs.Differences.{Audits}
use Rattle.esto_fill.specs.Judging.{IsFirstTried, JudgesRules}
use Rattle.esto_fill.specs.Parts.{IsFirstByMatch, IsFirstByPart, IsFirstByRule}
use Rattle.esto_ports.specs.declared.difference.Difference.{Difference}
use Rattle.esto_fill.proofs.TrialLemmas.{all_enough, concludes_among}

-- ---- where a thing first stands

-- the thing stands at the place, and at none before it
record IsFirstAt {X : Type 0} (things : List X) (thing : X) (place : ℕ) : Type 0 where
  there : slice_get things place ≡ Some thing
  least : (other : ℕ) → slice_get things other ≡ Some thing → place ≤ other

module _ {X : Type 0} where
  first_here : (first : X) (rest : List X) → IsFirstAt (first ∷ rest) first 0
  first_here first rest = record { there = refl; least = λ other at. omega arith }

  first_later : (first : X) (rest : List X) (thing : X) (place : ℕ) → (first ≡ thing → ⊥) → IsFirstAt rest thing place
      → IsFirstAt (first ∷ rest) thing (suc place)
  first_later first rest thing place apart before = record { there = before.there; least = least }
    where
      least : (other : ℕ) → slice_get (first ∷ rest) other ≡ Some thing → suc place ≤ other
      least zero at = absurd (apart (same_Some first thing at))
      least (suc other) at = let more = before.least other at in omega (arith, more)

  first_at : ((thing other : X) → Decided (thing ≡ other)) → (things : List X) (thing : X) → Contains things thing
      → (place : ℕ) × IsFirstAt things thing place
  first_at same [] thing inside = absurd (Contains-nil thing inside)
  first_at same (first ∷ rest) thing inside = elim (same first thing) [
    | inl is ↦ (0, subst (λ it. IsFirstAt (first ∷ rest) it 0) is (first_here first rest))
    | inr apart ↦
        let later = first_at same rest thing (elim (Contains-cases first rest thing inside) [ inl is ↦ absurd (apart is) | inr there ↦ there ]) in
        (suc later.0, first_later first rest thing later.0 apart later.1)
  ]

-- ---- matches at first places

-- each image of an atom first stands among the facts at its place
abbrev AreFirst : (Term → Term) → List (Fact Term) → List (Fact Term) → List ℕ → Type 0
AreFirst m body facts places = AllZip (λ atom place. IsFirstAt facts (image m atom) place) body places

first_places : (m : Term → Term) (body facts : List (Fact Term)) → Sends m body facts → (places : List ℕ) × AreFirst m body facts places
first_places m [] facts sends = ([], tt)
first_places m (atom ∷ body) facts sends =
    let here = first_at (decided_fact decided_term) facts (image m atom) (sends atom (Contains-head atom body)) in
    let rest = first_places m body facts (λ it inside. sends it (Contains-rest atom body it inside)) in
    (here.0 ∷ rest.0, (here.1, rest.1))

first_match : (m : Term → Term) (body facts : List (Fact Term)) (places : List ℕ) → AreFirst m body facts places → IsMatch m body facts places
first_match m [] facts [] are = tt
first_match m [] facts (place ∷ places) are = absurd are
first_match m (atom ∷ body) facts [] are = absurd are
first_match m (atom ∷ body) facts (place ∷ places) (here, rest) = (here.there, first_match m body facts places rest)

-- where the images of one map come before those of another in the part, they do so among all facts
module _ (facts part : List (Fact Term)) (m other : Term → Term)
    (in_order : (one other : Fact Term) → one.relation ≡ other.relation → Contains part other → StandsBefore part one other → StandsBefore facts one other)
  where
    earlier : (atom : Fact Term) (place seen one its : ℕ) → slice_get part place ≡ Some (image m atom) → IsFirstAt part (image other atom) seen
        → place < seen → IsFirstAt facts (image m atom) one → slice_get facts its ≡ Some (image other atom) → one < its
    earlier atom place seen one its here sees less own there =
        let stands = in_order (image m atom) (image other atom) refl (Contains-at part seen (image other atom) sees.there)
        (place, here, λ later at. (let more = sees.least later at in omega (arith, less, more))) in
        let low = own.least stands.0 stands.1 in
        let high = stands.2 its there in
        omega (arith, low, high)

    at_most_all : (body : List (Fact Term)) (places seen ones others : List ℕ) → IsMatch m body part places → AreFirst other body part seen
        → IsAtMost places seen → AreFirst m body facts ones → IsMatch other body facts others → IsAtMost ones others
    at_most_all [] places seen [] others match sees less own there = IsAtMost-nil others
    at_most_all [] places seen (one ∷ ones) others match sees less own there = absurd own
    at_most_all (atom ∷ body) [] seen ones others match sees less own there = absurd match
    at_most_all (atom ∷ body) (place ∷ places) [] ones others match sees less own there = absurd sees
    at_most_all (atom ∷ body) (place ∷ places) (first ∷ seen) [] others match sees less own there = absurd own
    at_most_all (atom ∷ body) (place ∷ places) (first ∷ seen) (one ∷ ones) [] match sees less own there = absurd there
    at_most_all (atom ∷ body) (place ∷ places) (first ∷ seen) (one ∷ ones) (its ∷ others) match sees less own there =
        elim ((IsAtMost-cons place first places seen).0 less) [
          | inl before ↦ (IsAtMost-cons one its ones others).1 (inl (earlier atom place first one its match.0 sees.0 before own.0 there.0))
          | inr both ↦
              let same : image m atom ≡ image other atom = same_Some (image m atom) (image other atom)
              (sym match.0 ∙ ap (slice_get part) both.0 ∙ sees.0.there) in
              IsAtMost-least one its ones others (own.0.least its (there.0 ∙ ap Some (sym same)))
              (λ _. at_most_all body places seen ones others match.1 sees.1 both.1 own.1 there.1)
        ]

-- ---- the least active match

module _ (rule : Rule) (facts part : List (Fact Term)) (valuation : Assignment) (places : List ℕ) (is_part : IsPartFor rule facts part)
    (active : IsLeastActive rule part valuation places) where
  abbrev m : Term → Term
  m = map_of valuation

  match_in_part : IsMatch m (body_of rule) part places
  match_in_part = ((active.is_found.exact m (Keeps-map_of valuation)).0 (Extends-map_of valuation)).1

  -- the first places of its images
  ones : (ones : List ℕ) × AreFirst m (body_of rule) facts ones
  ones = first_places m (body_of rule) facts
      (λ atom inside. is_part.among (image m atom) (Sends-match m (body_of rule) part places match_in_part atom inside))

  match_in_all : IsMatch m (body_of rule) facts ones.0
  match_in_all = first_match m (body_of rule) facts ones.0 ones.1

  exact_in_all : (other : Term → Term) → Keeps Const other → Extends other valuation ↔ (Extends other empty × IsMatch other (body_of rule) facts ones.0)
  exact_in_all other keeps = (
    (λ extends. let found = (active.is_found.exact other keeps).0 extends in (
      found.0,
      IsMatch-agree m other (body_of rule) facts ones.0 (images_same m other (body_of rule) part places match_in_part found.1) match_in_all,
    )),
    (λ (starts, match). (active.is_found.exact other keeps).1 (
      starts,
      IsMatch-agree m other (body_of rule) part places (images_same m other (body_of rule) facts ones.0 match_in_all match) match_in_part,
    )),
  )

  active_in_all : (other : Term → Term) → Keeps Const other → Extends other valuation → ¬ (Holds facts rule other)
  active_in_all other keeps extends holds =
      let match = ((active.is_found.exact other keeps).0 extends).1 in
      active.active other keeps extends (is_part.concluded other keeps (Sends-match other (body_of rule) part places match) holds)

  least_in_all : (other : Term → Term) (others : List ℕ) → Keeps Const other → IsMatch other (body_of rule) facts others → ¬ (Holds facts rule other)
      → IsAtMost ones.0 others
  least_in_all other others keeps match fails =
      let seen = first_places other (body_of rule) part (is_part.active other others (record { keeps = keeps; matches = match; active = fails })) in
      at_most_all facts part m other is_part.in_order (body_of rule) places seen.0 ones.0 others match_in_part seen.1
      (active.least other seen.0 keeps (first_match other (body_of rule) part seen.0 seen.1)
      (λ holds. fails (concludes_among facts part is_part.among rule other holds)))
      ones.1 match

  -- a least active match in the part is the least active match in all facts
  pub least_of_part : (others : List ℕ) × IsLeastActive rule facts valuation others
  least_of_part = (
    ones.0,
    record {
      is_found = record { exact = exact_in_all; variables = active.is_found.variables };
      active = active_in_all;
      least = least_in_all;
    },
  )

-- ---- its difference

-- where there are no laws, the first rule that is not met is the first that is tried
first_tried : (rules : List Rule) (facts : List (Fact Term)) (number : ℕ) (valuation : Assignment) (places : List ℕ)
    → IsFirstUnmet rules facts number valuation places → IsFirstTried [] rules facts number valuation places
first_tried rules facts number valuation places unmet = record {
  rule = unmet.rule;
  there = unmet.there;
  tried = λ law. Contains-nil unmet.rule law;
  active = unmet.active;
  before = λ rule inside. inr (Contains-nil rule, unmet.before rule inside);
}

module _ (catalogue : Catalogue) (number : ℕ) (valuation : Assignment) where
  -- it is judged so of the rules
  pub judged_by_match : (facts : List (Fact Term)) (places : List ℕ) → AreFlat facts
      → IsFirstUnmet (rules_of catalogue.rules) facts number valuation places
      → (outcome : Option Difference) → MatchOption outcome ⊥ (IsFirstByMatch catalogue number valuation)
      → JudgesRules (rules_of catalogue.rules) (map written catalogue.rules) facts outcome
  judged_by_match facts places flat unmet None told = absurd told
  judged_by_match facts places flat unmet (Some difference) told =
      let enough = all_enough (rules_of catalogue.rules) (views_of catalogue.fragments) facts flat in
      let first = told [] facts facts places enough (first_tried (rules_of catalogue.rules) facts number valuation places unmet) in
      subst (λ it. JudgesRules (rules_of catalogue.rules) (map written catalogue.rules) facts (Some it)) (sym first.2) first.3

  -- found in a part, it is the first
  pub first_by_part : (constraint : Constraint) (part : List (Fact Term)) (places : List ℕ) → slice_get catalogue.rules number ≡ Some constraint
      → IsLeastActive (rule_of constraint) part valuation places
      → (outcome : Option Difference) → MatchOption outcome ⊥ (IsFirstByMatch catalogue number valuation)
      → (rule : Rule) → slice_get (rules_of catalogue.rules) number ≡ Some rule
      → MatchOption outcome (IsMet part rule) (IsFirstByPart catalogue number rule part)
  first_by_part constraint part places at active None told rule there = absurd told
  first_by_part constraint part places at active (Some difference) told rule there = λ laws facts some enough tried before is_part.
      let same : rule_of constraint ≡ rule = same_Some (rule_of constraint) rule (sym (map_at rule_of catalogue.rules number constraint at) ∙ there) in
      let moved = least_of_part rule some part valuation places is_part (subst (λ it. IsLeastActive it part valuation places) same active) in
      told laws facts some moved.0 enough (record { rule = rule; there = there; tried = tried; active = moved.1; before = before })

-- where the part meets the rule, none is found
pub met_in_part : (rules : List Constraint) (number : ℕ) (constraint : Constraint) (part : List (Fact Term)) → slice_get rules number ≡ Some constraint
    → IsMet part (rule_of constraint) → (rule : Rule) → slice_get (rules_of rules) number ≡ Some rule → IsMet part rule
met_in_part rules number constraint part at met rule there =
    subst (IsMet part) (same_Some (rule_of constraint) rule (sym (map_at rule_of rules number constraint at) ∙ there)) met

-- what is the first by a rule is the first of an audit, whatever the fragments hold
pub first_audited : (catalogue : Catalogue) (names : List (List ℕ)) (views : List ConjunctiveQuery) (facts : List (Fact Term))
    (Holds : Fact (List ℕ) → Type 0) (difference : Difference) → IsFirstByRule catalogue facts difference
    → Audits (rules_of catalogue.rules) (map written catalogue.rules) names views facts Holds (Some difference)
first_audited catalogue names views facts Holds difference first =
    subst (λ it. Audits (rules_of catalogue.rules) (map written catalogue.rules) names views facts Holds (Some it)) (sym first.2) first.3
