-- An audit over the facts on which it rests is one over all facts.
use Rattle.std.proofs.Common.{◌≡◌, ◌↔◌, inl, inr, ℕ, zero, suc, ◌+◌, ◌<◌, ◌≤◌, List, [], ◌∷◌, ◌++◌, length, get_or, map, take, Some, None, slice_get, Contains}
use Rattle.std.proofs.Common.{Option, refl, sym, ap, ◌∙◌, subst, arith}
use Rattle.std.proofs.lemmas.List.Elements.{Contains-append_left, Contains-append_right}
use Rattle.std.specs.List.{flat_map}
use Rattle.std.specs.Cmp.Lexicographic.{slice_cmp}
use Rattle.std.specs.Ordering.{MatchOrdering, nat_cmp, ordering_then}
use Rattle.std.specs.declared.cmp.Ordering.{Ordering}
use Rattle.std.specs.declared.cmp.Ordering.TheVariants.{Less, Equal, Greater}
use Rattle.std.proofs.lemmas.Cmp.{ranked}
use Rattle.std.proofs.lemmas.Option.{same_Some, slice_get_within}
use Rattle.esto_constraint.specs.Constraints.{rule_of, rules_of}
use Rattle.esto_constraint.specs.EncodingRules.{written}
use Rattle.esto_constraint.specs.Matches.{LeastActiveIsLeast}
use Rattle.esto_semantics.specs.Rules.{AreMet, IsMet}
use Rattle.esto_constraint.specs.declared.rule.Constraint.{Constraint}
use Rattle.esto_steps.specs.Rows.{IsRowOf, held_by}
use Rattle.esto_mapping.specs.declared.catalogue.Catalogue.{Catalogue}
use Rattle.esto_query.specs.Making.{query_of}
use Rattle.esto_semantics.specs.Valuations.{Assignment, map_of}
use Rattle.esto_semantics.specs.Facts.{image}
use Rattle.esto_semantics.specs.Maps.{AreFlat, Keeps}
use Rattle.esto_semantics.specs.Matches.{IsActive, IsAtMost, IsMatch}
use Rattle.esto_semantics.specs.Queries.{ConjunctiveQuery, IsAnswer}
use Rattle.esto_semantics.specs.Rules.{Rule, tuple, equality, denial, AreRules, Concludes, body_of}
use Rattle.esto_semantics.specs.Standing.{RulesStand}
use Rattle.esto_semantics.specs.Views.{IsViewRow}
use Rattle.esto_semantics.specs.declared.fact.Fact.{Fact}
use Rattle.esto_semantics.specs.declared.fact.Value.{Value}
use Rattle.esto_semantics.specs.declared.fact.Value.TheVariants.{Text}
use Rattle.esto_semantics.proofs.FactLemmas.{image_then}
use Rattle.esto_stores.specs.Rows.{Row}
use Rattle.esto_term.specs.declared.term.Term.{Term}
use Rattle.esto_term.specs.declared.term.Term.TheVariants.{Const}
use Rattle.esto_views.specs.Fragments.{views_of}
use Rattle.esto_views.specs.declared.fragments.FragmentDef.{FragmentDef}
use Rattle.esto_term.proofs.ListLemmas.{Contains-at, Contains-head, Contains-flat, Contains-map, Contains-map_from, Contains-nil, Contains-one, Contains-rest}
use Rattle.esto_term.proofs.ListLemmas.{each_more, each_seen, map_at}
use Rattle.esto_term.proofs.PlaceLemmas.{Contains-take_in}
use Rattle.esto_fill.specs.Databases.{database_of, value_of}
use Rattle.esto_fill.specs.Differences.{AreOne, HoldViewRows, IsFirstApart, IsFirstBroken, IsOfView, at}
use Rattle.esto_fill.specs.Judging.{ArePassed, IsFirstTried, JudgesFragments, JudgesRules}
use Rattle.esto_fill.specs.Records.{IsRecordOf}
use Rattle.esto_fill.specs.Trials.{AddsTried, HaveParts, IsEnough, IsWantedBut, KeepBodies, parts_of}
use Rattle.esto_fill.specs.Wanted.{DropsUnasked, IsAsked}
use Rattle.esto_ports.specs.declared.difference.Difference.{Difference}
use Rattle.esto_fill.specs.declared.wanted.Wanted.TheVariants.{Asked}
use Rattle.esto_ports.specs.declared.difference.Difference.TheVariants.{Rule as Broken, Missing, Extra}
use Rattle.esto_fill.proofs.DifferenceLemmas.{apart_same, first_rules, met_meets}
use Rattle.esto_fill.proofs.ValueLemmas.{facts_stand, value_Const}
use Rattle.esto_fill.proofs.WantedLemmas.{answers_rest_on_wanted_facts, drops_has}

-- ---- where the facts that are left stand

-- the place of each fact that is left among all facts, in order; each fact to which an atom can go is left
record AreLeftAt (bodies : List (List (Fact Term))) (facts some : List (Fact Term)) : Type 0 where
  place : ℕ → ℕ
  rises : (n m : ℕ) → n < m → place n < place m
  there : (n : ℕ) (fact : Fact Term) → slice_get some n ≡ Some fact → slice_get facts (place n) ≡ Some fact
  back : (p : ℕ) (fact : Fact Term) → slice_get facts p ≡ Some fact → IsAsked bodies fact → (n : ℕ) × (place n ≡ p) × (slice_get some n ≡ Some fact)

-- a first fact that is left moves the places of the others
after_first : (ℕ → ℕ) → ℕ → ℕ
after_first place zero = zero
after_first place (suc n) = suc (place n)

module _ (bodies : List (List (Fact Term))) where
  kept_at : (first : Fact Term) (facts rest : List (Fact Term)) → AreLeftAt bodies facts rest → AreLeftAt bodies (first ∷ facts) (first ∷ rest)
  unfolding after_first
  kept_at first facts rest before = record { place = after_first before.place; rises = rises; there = there; back = back }
    where
      rises : (n m : ℕ) → n < m → after_first before.place n < after_first before.place m
      rises zero zero less = absurd (omega (arith, less))
      rises zero (suc m) less = omega arith
      rises (suc n) zero less = absurd (omega (arith, less))
      rises (suc n) (suc m) less = let inner = before.rises n m (omega (arith, less)) in omega (arith, inner)

      there : (n : ℕ) (fact : Fact Term) → slice_get (first ∷ rest) n ≡ Some fact → slice_get (first ∷ facts) (after_first before.place n) ≡ Some fact
      there zero fact is = is
      there (suc n) fact is = before.there n fact is

      back : (p : ℕ) (fact : Fact Term) → slice_get (first ∷ facts) p ≡ Some fact → IsAsked bodies fact
          → (n : ℕ) × (after_first before.place n ≡ p) × (slice_get (first ∷ rest) n ≡ Some fact)
      back zero fact is asked = (zero, refl, is)
      back (suc p) fact is asked = let found = before.back p fact is asked in (suc found.0, ap suc found.1, found.2)

  dropped_at : (first : Fact Term) (facts rest : List (Fact Term)) → ¬ (IsAsked bodies first) → AreLeftAt bodies facts rest
      → AreLeftAt bodies (first ∷ facts) rest
  dropped_at first facts rest free before = record {
    place = λ n. suc (before.place n);
    rises = λ n m less. (let inner = before.rises n m less in omega (arith, inner));
    there = λ n fact is. before.there n fact is;
    back = back;
  }
    where
      back : (p : ℕ) (fact : Fact Term) → slice_get (first ∷ facts) p ≡ Some fact → IsAsked bodies fact
          → (n : ℕ) × (suc (before.place n) ≡ p) × (slice_get rest n ≡ Some fact)
      back zero fact is asked = absurd (free (subst (IsAsked bodies) (sym (same_Some first fact is)) asked))
      back (suc p) fact is asked = let found = before.back p fact is asked in (found.0, ap suc found.1, found.2)

  none_at : AreLeftAt bodies [] []
  none_at = record {
    place = λ n. n;
    rises = λ n m less. less;
    there = λ n fact is. is;
    back = λ p fact is asked. absurd (let within = slice_get_within [] p fact is in omega (arith, within));
  }

  left_at : (facts some : List (Fact Term)) → DropsUnasked bodies facts some → AreLeftAt bodies facts some
  left_at [] some empty = subst (AreLeftAt bodies []) (sym empty) none_at
  left_at (first ∷ facts) some (rest, before, inl is) = subst (AreLeftAt bodies (first ∷ facts)) (sym is) (kept_at first facts rest (left_at facts rest before))
  left_at (first ∷ facts) some (rest, before, inr (is, free)) =
      subst (AreLeftAt bodies (first ∷ facts)) (sym is) (dropped_at first facts rest free (left_at facts rest before))

-- ---- places that rise alike are ordered alike

module _ (place : ℕ → ℕ) (rises : (n m : ℕ) → n < m → place n < place m) where
  ordered_number : (n m : ℕ) → nat_cmp (place n) (place m) ≡ nat_cmp n m
  ordered_number n m = by (nat_cmp n m) (ranked n m (nat_cmp n m) refl) (nat_cmp (place n) (place m))
      (ranked (place n) (place m) (nat_cmp (place n) (place m)) refl)
    where
      by : (order : Ordering) → MatchOrdering order (n < m) (n ≡ m) (m < n) → (other : Ordering)
          → MatchOrdering other (place n < place m) (place n ≡ place m) (place m < place n) → other ≡ order
      by Less less Less _ = refl
      by Less less Equal same = absurd (let inner = rises n m less in omega (arith, inner, same))
      by Less less Greater more = absurd (let inner = rises n m less in omega (arith, inner, more))
      by Equal same Less less = absurd (let one = ap place same in omega (arith, one, less))
      by Equal same Equal _ = refl
      by Equal same Greater more = absurd (let one = ap place same in omega (arith, one, more))
      by Greater more Less less = absurd (let inner = rises m n more in omega (arith, inner, less))
      by Greater more Equal same = absurd (let inner = rises m n more in omega (arith, inner, same))
      by Greater more Greater _ = refl

  ordered_places : (places others : List ℕ) → slice_cmp nat_cmp (map place places) (map place others) ≡ slice_cmp nat_cmp places others
  ordered_places [] [] = refl
  ordered_places [] (other ∷ others) = refl
  ordered_places (one ∷ places) [] = refl
  ordered_places (one ∷ places) (other ∷ others) =
      ap (λ order. ordering_then order (slice_cmp nat_cmp (map place places) (map place others))) (ordered_number one other)
      ∙ ap (λ order. ordering_then (nat_cmp one other) order) (ordered_places places others)

  at_most_moved : (places others : List ℕ) → IsAtMost places others → IsAtMost (map place places) (map place others)
  at_most_moved places others least more = least (sym (ordered_places places others) ∙ more)

-- ---- matches of a rule's parts

body_part : (rule : Rule) → Contains (parts_of rule) (body_of rule)
body_part (tuple body head) = Contains-head body (head ∷ [])
body_part (equality body left right) = Contains-head body []
body_part (denial body) = Contains-head body []

-- what some of the facts conclude, all conclude
pub concludes_among : (facts some : List (Fact Term)) → ((fact : Fact Term) → Contains some fact → Contains facts fact) → (rule : Rule) (m : Term → Term)
    → Concludes Const ◌≡◌ (Contains some) rule m → Concludes Const ◌≡◌ (Contains facts) rule m
concludes_among facts some among (tuple body head) m (more, keeps, agree, sends) =
    (more, keeps, agree, λ it inside. among (image more it) (sends it inside))
concludes_among facts some among (equality body left right) m same = same
concludes_among facts some among (denial body) m never = never

module _ (bodies : List (List (Fact Term))) (facts some : List (Fact Term)) (drops : DropsUnasked bodies facts some) where
  -- to the image of an atom the atom can go
  image_asked : (m : Term → Term) → Keeps Const m → (part : List (Fact Term)) → Contains bodies part → (atom : Fact Term) → Contains part atom
      → IsAsked bodies (image m atom)
  image_asked m keeps part inside atom in_part =
      (part, atom, (λ term. value_of (m term)), inside, in_part, (λ text. ap value_of (keeps text) ∙ value_Const text), sym (image_then m value_of atom))

  -- what the one facts hold of an image the others do
  image_left : (m : Term → Term) → Keeps Const m → (part : List (Fact Term)) → Contains bodies part → (atom : Fact Term) → Contains part atom
      → Contains facts (image m atom) → Contains some (image m atom)
  image_left m keeps part inside atom in_part there =
      (drops_has bodies facts some drops).1 (image m atom) there (image_asked m keeps part inside atom in_part)

  concludes_all : (rule : Rule) (m : Term → Term) → Concludes Const ◌≡◌ (Contains some) rule m → Concludes Const ◌≡◌ (Contains facts) rule m
  concludes_all = concludes_among facts some (drops_has bodies facts some drops).0

  concludes_left : (rule : Rule) → HaveParts bodies rule → (m : Term → Term) → Concludes Const ◌≡◌ (Contains facts) rule m
      → Concludes Const ◌≡◌ (Contains some) rule m
  concludes_left (tuple body head) have m (more, keeps, agree, sends) = (
    more,
    keeps,
    agree,
    λ it inside. image_left more keeps head (have head (Contains-rest body (head ∷ []) head (Contains-head head []))) it inside (sends it inside),
  )
  concludes_left (equality body left right) have m same = same
  concludes_left (denial body) have m never = never

  module _ (rule : Rule) (have : HaveParts bodies rule) where
    in_bodies : Contains bodies (body_of rule)
    in_bodies = have (body_of rule) (body_part rule)

    met_all : IsMet some rule → IsMet facts rule
    met_all met m keeps sends =
        concludes_all rule m (met m keeps (λ it inside. image_left m keeps (body_of rule) in_bodies it inside (sends it inside)))

    met_left : IsMet facts rule → IsMet some rule
    met_left met m keeps sends =
        concludes_left rule have m (met m keeps (λ it inside. (drops_has bodies facts some drops).0 (image m it) (sends it inside)))

    module _ (are : AreLeftAt bodies facts some) where
      match_all : (m : Term → Term) (body : List (Fact Term)) (places : List ℕ) → IsMatch m body some places → IsMatch m body facts (map are.place places)
      match_all m [] [] match = tt
      match_all m [] (place ∷ places) match = absurd match
      match_all m (atom ∷ body) [] match = absurd match
      match_all m (atom ∷ body) (place ∷ places) (here, rest) = (are.there place (image m atom) here, match_all m body places rest)

      match_left : (m : Term → Term) → Keeps Const m → (body : List (Fact Term)) → ((atom : Fact Term) → Contains body atom → Contains (body_of rule) atom)
          → (others : List ℕ) → IsMatch m body facts others → (places : List ℕ) × (map are.place places ≡ others) × IsMatch m body some places
      match_left m keeps [] of_rule [] match = ([], refl, tt)
      match_left m keeps [] of_rule (other ∷ others) match = absurd match
      match_left m keeps (atom ∷ body) of_rule [] match = absurd match
      match_left m keeps (atom ∷ body) of_rule (other ∷ others) (here, rest) =
          let first = are.back other (image m atom) here (image_asked m keeps (body_of rule) in_bodies atom (of_rule atom (Contains-head atom body))) in
          let found = match_left m keeps body (λ it inside. of_rule it (Contains-rest atom body it inside)) others rest in
          (first.0 ∷ found.0, (λ i. first.1 i ∷ found.1 i), (first.2, found.2))

      active_all : (m : Term → Term) (places : List ℕ) → IsActive rule some m places → IsActive rule facts m (map are.place places)
      active_all m places active = record {
        keeps = active.keeps;
        matches = match_all m (body_of rule) places active.matches;
        active = λ concludes. active.active (concludes_left rule have m concludes);
      }

      least_all : (places : List ℕ) → ((other : Term → Term) (others : List ℕ) → IsActive rule some other others → IsAtMost places others)
          → (other : Term → Term) (others : List ℕ) → IsActive rule facts other others → IsAtMost (map are.place places) others
      least_all places least other others active =
          let found = match_left other active.keeps (body_of rule) (λ atom inside. inside) others active.matches in
          subst (IsAtMost (map are.place places)) found.1
          (at_most_moved are.place are.rises places found.0 (least other found.0 (record {
            keeps = active.keeps;
            matches = found.2;
            active = λ concludes. active.active (concludes_all rule other concludes);
          })))

-- ---- the rules

-- of facts of which both are enough, the ones meet a rule that is tried where the others do, and pass the same rules
module _ (rules laws : List Rule) (views : List ConjunctiveQuery) (facts some others : List (Fact Term)) (one : IsEnough rules laws views facts some)
    (other : IsEnough rules laws views facts others) where
  pub met_moves : (rule : Rule) → Contains rules rule → ¬ (Contains laws rule) → IsMet some rule → IsMet others rule
  met_moves rule inside tried met =
      met_left other.bodies facts others other.drops rule (other.covers.tried rule inside tried)
      (met_all one.bodies facts some one.drops rule (one.covers.tried rule inside tried) met)

  pub passed_moves : (those : List Rule) → ((rule : Rule) → Contains those rule → Contains rules rule) → ArePassed laws some those
      → ArePassed laws others those
  passed_moves those among passed rule inside = elim (passed rule inside) [
    | inl law ↦ inl law
    | inr (tried, met) ↦ inr (tried, met_moves rule (among rule inside) tried met)
  ]

module _ (stand : RulesStand) (rules : List Constraint) (laws : List Rule) (views : List ConjunctiveQuery) (facts some : List (Fact Term))
    (enough : IsEnough (rules_of rules) laws views facts some) (are : AreRules (rules_of rules)) where
  passed_met : (those : List Rule) → ((rule : Rule) → Contains those rule → Contains (rules_of rules) rule) → ArePassed laws some those → AreMet facts those
  passed_met those among passed rule inside = elim (passed rule inside) [
    | inl law ↦ enough.met rule law
    | inr (tried, met) ↦ met_all enough.bodies facts some enough.drops rule (enough.covers.tried rule (among rule inside) tried) met
  ]

  -- each rule is met
  pub rules_met : ArePassed laws some (rules_of rules) → JudgesRules (rules_of rules) (map written rules) facts None
  rules_met passed =
      met_meets stand facts (facts_stand facts enough.flat) (rules_of rules) are (passed_met (rules_of rules) (λ rule inside. inside) passed)

  -- or there is a first that is not
  pub rule_broken : (least : LeastActiveIsLeast) (place number : ℕ) (constraint : Constraint) (valuation : Assignment) (places : List ℕ) (cells : Row)
      → number ≡ place + 1 → slice_get rules place ≡ Some constraint → IsFirstTried laws (rules_of rules) some place valuation places
      → IsRecordOf (written constraint) (body_of (rule_of constraint)) (map_of valuation) cells
      → IsFirstBroken (rules_of rules) (map written rules) facts number cells
  rule_broken least place number constraint valuation places cells counted there broken shown =
      let same : rule_of constraint ≡ broken.rule = same_Some (rule_of constraint) broken.rule
      (sym (map_at rule_of rules place constraint there) ∙ broken.there) in
      let active = least broken.rule some valuation places broken.active in
      let have = enough.covers.tried broken.rule (Contains-at (rules_of rules) place broken.rule broken.there) broken.tried in
      let left = left_at enough.bodies facts some enough.drops in
      record {
        place = place;
        counted = omega (arith, counted);
        rule = broken.rule;
        there = broken.there;
        own = written constraint;
        named = map_at written rules place constraint there;
        m = map_of valuation;
        places = map left.place places;
        active = active_all enough.bodies facts some enough.drops broken.rule have left (map_of valuation) places active.0;
        least = least_all enough.bodies facts some enough.drops broken.rule have left places active.1;
        before = met_meets stand facts (facts_stand facts enough.flat) (take place (rules_of rules)) (first_rules (rules_of rules) place are)
            (passed_met (take place (rules_of rules)) (λ rule inside. Contains-take_in (rules_of rules) place rule inside) broken.before);
        shown = subst (λ rule. IsRecordOf (written constraint) (body_of rule) (map_of valuation) cells) same shown;
      }

-- ---- the views

module _ (rules laws : List Rule) (views : List ConjunctiveQuery) (facts some : List (Fact Term)) (enough : IsEnough rules laws views facts some) where
  -- a view has the same rows
  pub view_same : (view : ConjunctiveQuery) → Contains views view → (values : List Value)
      → IsAnswer view (database_of some) values ↔ IsAnswer view (database_of facts) values
  view_same view inside values =
      answers_rest_on_wanted_facts enough.bodies facts some view values (drops_has enough.bodies facts some enough.drops) (enough.covers.asked view inside)

  row_same : (fact : Fact Value) → IsViewRow views (database_of some) fact ↔ IsViewRow views (database_of facts) fact
  row_same fact = (
    (λ (view, is, answer). (view, is, (view_same view (Contains-at views fact.relation view is) fact.terms).0 answer)),
    (λ (view, is, answer). (view, is, (view_same view (Contains-at views fact.relation view is) fact.terms).1 answer)),
  )

  of_view_same : (number : ℕ) → AreOne (IsOfView views (database_of some) number) (IsOfView views (database_of facts) number)
  of_view_same number row = row_same (record { relation = number; terms = map Text row })

  hold_all : (Holds : Fact (List ℕ) → Type 0) → HoldViewRows views (database_of some) Holds → HoldViewRows views (database_of facts) Holds
  hold_all Holds hold fact = (
    (λ answer. (hold fact).0 ((row_same fact).1 answer)),
    (λ found. (row_same fact).0 ((hold fact).1 found)),
  )

  module _ (names : List (List ℕ)) where
    missing_all : (Held : ℕ → Row → Type 0) (name : List ℕ) (row : Row) → IsFirstApart names (IsOfView views (database_of some)) Held name row
        → IsFirstApart names (IsOfView views (database_of facts)) Held name row
    missing_all Held name row apart = record {
      number = apart.number;
      named = apart.named;
      apart = apart_same (IsOfView views (database_of some) apart.number) (Held apart.number) (IsOfView views (database_of facts) apart.number)
          (Held apart.number) (of_view_same apart.number) (λ it. ((λ inside. inside), (λ inside. inside))) row apart.apart;
      before = λ earlier less it. (
        (λ inside. (apart.before earlier less it).0 ((of_view_same earlier it).1 inside)),
        (λ inside. (of_view_same earlier it).0 ((apart.before earlier less it).1 inside)),
      );
    }

    extra_all : (Held : ℕ → Row → Type 0) (name : List ℕ) (row : Row) → IsFirstApart names Held (IsOfView views (database_of some)) name row
        → IsFirstApart names Held (IsOfView views (database_of facts)) name row
    extra_all Held name row apart = record {
      number = apart.number;
      named = apart.named;
      apart = apart_same (Held apart.number) (IsOfView views (database_of some) apart.number) (Held apart.number)
          (IsOfView views (database_of facts) apart.number) (λ it. ((λ inside. inside), (λ inside. inside))) (of_view_same apart.number) row apart.apart;
      before = λ earlier less it. (
        (λ inside. (of_view_same earlier it).0 ((apart.before earlier less it).0 inside)),
        (λ inside. (apart.before earlier less it).1 ((of_view_same earlier it).1 inside)),
      );
    }

    -- what is judged of fragments over what is left is so over all facts
    pub fragments_all : (rows : List (List Row)) (outcome : Option Difference) → JudgesFragments names views (database_of some) rows outcome
        → JudgesFragments names views (database_of facts) rows outcome
    fragments_all rows None hold = hold_all (IsRowOf (held_by rows)) hold
    fragments_all rows (Some (Broken number cells)) judged = judged
    fragments_all rows (Some (Missing name row)) apart = missing_all (λ number own. IsRowOf (held_by rows) (at number own)) name row apart
    fragments_all rows (Some (Extra name row)) apart = extra_all (λ number own. IsRowOf (held_by rows) (at number own)) name row apart

-- ---- what a trial asks for

-- a rule that is one of the laws
pub tried_law : (rule : Rule) (laws : List Rule) (bodies : List (List (Fact Term))) → Contains laws rule → AddsTried (rule ∷ []) laws bodies bodies
tried_law rule laws bodies law = (
  (λ body inside. inside),
  λ it inside free. absurd (free (subst (Contains laws) (Contains-one rule it inside) law)),
)

-- and one whose parts have come to the bodies
pub tried_more : (rule : Rule) (laws : List Rule) (old new : List (List (Fact Term))) → new ≡ old ++ parts_of rule → AddsTried (rule ∷ []) laws old new
tried_more rule laws old new is = subst (AddsTried (rule ∷ []) laws old) (sym is) (
  (λ body inside. Contains-append_left old (parts_of rule) body inside),
  λ it inside free part of_it.
      Contains-append_right old (parts_of rule) part (subst (λ its. Contains (parts_of its) part) (sym (Contains-one rule it inside)) of_it),
)

module _ (rules : List Constraint) (laws : List Rule) where
  -- the parts of the rules so far
  abbrev pub AreTriedBelow : ℕ → List (List (Fact Term)) → Type 0
  AreTriedBelow count bodies =
      (rule : Constraint) → Contains (take count rules) rule → ¬ (Contains laws (rule_of rule)) → HaveParts bodies (rule_of rule)

  pub tried_next : (count : ℕ) (rule : Constraint) (start old new : List (List (Fact Term))) → count < length rules → rule ≡ get_or rules count rule
      → KeepBodies start old × AreTriedBelow count old → AddsTried (rule_of rule ∷ []) laws old new
      → KeepBodies start new × AreTriedBelow (count + 1) new
  tried_next count rule start old new within read before adds = (
    (λ body inside. adds.0 body (before.0 body inside)),
    each_more (λ (it : Constraint). ¬ (Contains laws (rule_of it)) → HaveParts new (rule_of it)) rules count rule within read
        (adds.1 (rule_of rule) (Contains-head (rule_of rule) []))
        (λ it inside free part of_it. adds.0 part (before.1 it inside free part of_it)),
  )

  pub tried_all : (count : ℕ) (start now : List (List (Fact Term))) → length rules ≤ count → KeepBodies start now × AreTriedBelow count now
      → AddsTried (rules_of rules) laws start now
  tried_all count start now past all = (
    all.0,
    λ rule inside free.
        let from = Contains-map_from rule_of rules rule inside in
        subst (HaveParts now) from.2
        (each_seen (λ (it : Constraint). ¬ (Contains laws (rule_of it)) → HaveParts now (rule_of it)) rules count past all.1 from.0 from.1
        (λ law. free (subst (Contains laws) from.2 law))),
  )

-- all that is asked for
pub trial_wants : (catalogue : Catalogue) (laws : List Rule) (start bodies : List (List (Fact Term)))
    → start ≡ map (λ (fragment : FragmentDef). (query_of fragment.view).body) catalogue.fragments
    → AddsTried (rules_of catalogue.rules) laws start bodies → IsWantedBut laws catalogue (Asked bodies)
trial_wants catalogue laws start bodies is adds = (bodies, refl, record { tried = adds.1; asked = asked })
  where
    asked : (view : ConjunctiveQuery) → Contains (views_of catalogue.fragments) view → Contains bodies view.body
    asked view inside =
        let from = Contains-map_from (λ (fragment : FragmentDef). query_of fragment.view) catalogue.fragments view inside in
        subst (λ (it : ConjunctiveQuery). Contains bodies it.body) from.2
        (adds.0 (query_of from.0.view).body (subst (λ those. Contains those (query_of from.0.view).body) (sym is)
        (Contains-map (λ (fragment : FragmentDef). (query_of fragment.view).body) catalogue.fragments from.0 from.1)))

-- ---- all facts are enough for themselves, without laws

keeps_all : (bodies : List (List (Fact Term))) (facts : List (Fact Term)) → DropsUnasked bodies facts facts
keeps_all bodies [] = refl
keeps_all bodies (fact ∷ facts) = (facts, keeps_all bodies facts, inl refl)

pub all_enough : (rules : List Rule) (views : List ConjunctiveQuery) (facts : List (Fact Term)) → AreFlat facts → IsEnough rules [] views facts facts
all_enough rules views facts flat = record {
  flat = flat;
  met = λ rule inside. absurd (Contains-nil rule inside);
  bodies = bodies;
  covers = record {
    tried = λ rule inside free part of_it.
        Contains-append_left (flat_map parts_of rules) (map (λ (view : ConjunctiveQuery). view.body) views) part
        (Contains-flat parts_of rules rule part inside of_it);
    asked = λ view inside. Contains-append_right (flat_map parts_of rules) (map (λ (view : ConjunctiveQuery). view.body) views) view.body
        (Contains-map (λ (view : ConjunctiveQuery). view.body) views view inside);
  };
  drops = keeps_all bodies facts;
}
  where
    bodies : List (List (Fact Term))
    bodies = flat_map parts_of rules ++ map (λ (view : ConjunctiveQuery). view.body) views
