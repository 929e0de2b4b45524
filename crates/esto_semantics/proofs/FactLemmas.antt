-- Facts under maps: images, what maps send where, matches, and what facts mention.
use Rattle.std.proofs.Common.{◌≡◌, ◌⊎◌, inl, inr, List, [], ◌∷◌, ◌++◌, map, length, Contains, refl, sym, ap, subst, arith, ℕ, ◌∙◌}
use Rattle.std.proofs.lemmas.Bool.{cases_eq}
use Rattle.std.proofs.lemmas.List.Elements.{Contains-append_cases}
use Rattle.esto_semantics.specs.Facts.{image, Mentions, terms_of}
use Rattle.esto_semantics.specs.Maps.{SendsInto, Sends}
use Rattle.esto_semantics.specs.declared.fact.Fact.{Fact}
use Rattle.esto_semantics.specs.Matches.{IsMatch}
use Rattle.esto_term.proofs.ChoiceLemmas.{Decided}
use Rattle.esto_term.proofs.ListLemmas.{Contains-map, Contains-map_from, map_agree, map_itself, map_then}
use Rattle.esto_term.proofs.ListLemmas.{Contains-at, Contains-cases, Contains-head, Contains-nil, Contains-rest}
use Rattle.esto_term.proofs.DistinctLemmas.{decided_contains}
use Rattle.esto_term.specs.declared.term.Term.{Term}
use Rattle.std.proofs.lemmas.Grind.{flat_map-append}
use Rattle.std.proofs.lemmas.List.{append-nil}

-- ---- the image of a fact

pub image_agree : {V W : Type 0} (m other : V → W) (fact : Fact V) → ((thing : V) → Contains fact.terms thing → m thing ≡ other thing)
    → image m fact ≡ image other fact
image_agree {W = W} m other fact agree = ap (λ (row : List W). record { relation = fact.relation; terms = row }) (map_agree m other fact.terms agree)

pub image_then : {V W U : Type 0} (m : V → W) (next : W → U) (fact : Fact V) → image next (image m fact) ≡ image (λ thing. next (m thing)) fact
image_then {U = U} m next fact = ap (λ (row : List U). record { relation = fact.relation; terms = row }) (map_then m next fact.terms)

pub image_itself : {V : Type 0} (fact : Fact V) → image (λ thing. thing) fact ≡ fact
image_itself {V = V} fact = ap (λ (row : List V). record { relation = fact.relation; terms = row }) (map_itself fact.terms)

-- ---- what a map sends where

module _ {V W U : Type 0} (m : V → W) (next : W → U) (facts : List (Fact V)) where
  -- one map after another, where the second takes what holds to what holds
  pub SendsInto-then : (Holds : Fact W → Type 0) (Others : Fact U → Type 0) → ((fact : Fact W) → Holds fact → Others (image next fact))
      → SendsInto m facts Holds → SendsInto (λ thing. next (m thing)) facts Others
  SendsInto-then Holds Others taken sends fact inside = subst Others (image_then m next fact) (taken (image m fact) (sends fact inside))

  pub Sends-then : (others : List (Fact W)) (last : List (Fact U)) → Sends m facts others → Sends next others last → Sends (λ thing. next (m thing)) facts last
  Sends-then others last sends sends_on = SendsInto-then (Contains others) (Contains last) sends_on sends

-- a map that agrees on what the facts mention sends them to the same
pub SendsInto-agree : {V W : Type 0} (m other : V → W) (facts : List (Fact V)) (Holds : Fact W → Type 0)
    → ((thing : V) → Mentions facts thing → m thing ≡ other thing)
    → SendsInto m facts Holds → SendsInto other facts Holds
SendsInto-agree m other facts Holds agree sends fact inside =
    subst Holds (image_agree m other fact (λ thing in_fact. agree thing (fact, inside, in_fact))) (sends fact inside)

pub Sends-images : {V W : Type 0} (m : V → W) (facts : List (Fact V)) → Sends m facts (map (image m) facts)
Sends-images m facts fact inside = Contains-map (image m) facts fact inside

pub Sends-itself : {V : Type 0} (facts : List (Fact V)) → Sends (λ thing. thing) facts facts
Sends-itself facts fact inside = subst (Contains facts) (sym (image_itself fact)) inside

-- ---- what facts mention

pub Mentions-images : {V W : Type 0} (m : V → W) (facts : List (Fact V)) (other : W) → Mentions (map (image m) facts) other
    → (thing : V) × Mentions facts thing × (m thing ≡ other)
Mentions-images m facts other (image_fact, inside, in_image) =
    let found = Contains-map_from (image m) facts image_fact inside in
    let at = Contains-map_from m found.0.terms other (subst (λ (fact : Fact _). Contains fact.terms other) (sym found.2) in_image) in
    (at.0, (found.0, found.1, at.1), at.2)

pub Mentions-sent : {V W : Type 0} (m : V → W) (facts : List (Fact V)) (others : List (Fact W)) (thing : V) → Sends m facts others → Mentions facts thing
    → Mentions others (m thing)
Mentions-sent m facts others thing sends (fact, inside, in_fact) = (image m fact, sends fact inside, Contains-map m fact.terms thing in_fact)

pub Mentions-among : {V : Type 0} (facts others : List (Fact V)) (thing : V) → ((fact : Fact V) → Contains facts fact → Contains others fact)
    → Mentions facts thing → Mentions others thing
Mentions-among facts others thing among (fact, inside, in_fact) = (fact, among fact inside, in_fact)

pub Mentions-append : {V : Type 0} (facts others : List (Fact V)) (thing : V) → Mentions (facts ++ others) thing → Mentions facts thing ⊎ Mentions others thing
Mentions-append facts others thing (fact, inside, in_fact) = elim (Contains-append_cases facts others fact inside) [
  | inl left ↦ inl (fact, left, in_fact)
  | inr right ↦ inr (fact, right, in_fact)
]

-- ---- whether facts are equal, where that is told of the things that stand in them

module _ {V : Type 0} (decide : (thing other : V) → Decided (thing ≡ other)) where
  decided_row : (row other : List V) → Decided (row ≡ other)
  decided_row [] [] = inl refl
  decided_row [] (thing ∷ rest) = inr (λ is. let count = ap length is in omega (arith, count))
  decided_row (thing ∷ rest) [] = inr (λ is. let count = ap length is in omega (arith, count))
  decided_row (thing ∷ rest) (other ∷ others) = by (decide thing other) (decided_row rest others)
    where
      by : Decided (thing ≡ other) → Decided (rest ≡ others) → Decided (thing ∷ rest ≡ other ∷ others)
      by (inl is) (inl same) = inl (λ i. is i ∷ same i)
      by (inl is) (inr apart) = inr (λ same. apart cc)
      by (inr apart) same = inr (λ is. apart cc)

  pub decided_fact : (fact other : Fact V) → Decided (fact ≡ other)
  decided_fact fact other = by (cases_eq fact.relation other.relation) (decided_row fact.terms other.terms)
    where
      by : (fact.relation ≡ other.relation) ⊎ (fact.relation ≡ other.relation → ⊥) → Decided (fact.terms ≡ other.terms) → Decided (fact ≡ other)
      by (inl is) (inl same) = inl (λ i. record { relation = is i; terms = same i })
      by (inl is) (inr apart) = inr (λ same. apart (ap (λ (it : Fact V). it.terms) same))
      by (inr apart) same = inr (λ is. apart (ap (λ (it : Fact V). it.relation) is))

  -- whether a map sends atoms to facts
  pub decided_sends : (facts : List (Fact V)) (m : Term → V) (atoms : List (Fact Term)) → Decided (Sends m atoms facts)
  decided_sends facts m [] = inl (λ fact none. absurd (Contains-nil fact none))
  decided_sends facts m (first ∷ rest) = by (decided_contains decided_fact facts (image m first)) (decided_sends facts m rest)
    where
      by : Decided (Contains facts (image m first)) → Decided (Sends m rest facts) → Decided (Sends m (first ∷ rest) facts)
      by (inl here) (inl later) = inl (λ fact inside. elim (Contains-cases first rest fact inside) [
        | inl is ↦ subst (λ it. Contains facts (image m it)) is here
        | inr further ↦ later fact further
      ])
      by (inl here) (inr not) = inr (λ sends. not (λ fact inside. sends fact (Contains-rest first rest fact inside)))
      by (inr not) later = inr (λ sends. not (sends first (Contains-head first rest)))

-- ---- matches

pub Sends-match : (m : Term → Term) (body facts : List (Fact Term)) (places : List ℕ) → IsMatch m body facts places → Sends m body facts
Sends-match m [] facts places match atom inside = absurd (Contains-nil atom inside)
Sends-match m (first ∷ rest) facts [] match atom inside = absurd match
Sends-match m (first ∷ rest) facts (place ∷ places) match atom inside = elim (Contains-cases first rest atom inside) [
  | inl is ↦ subst (λ it. Contains facts (image m it)) is (Contains-at facts place (image m first) match.0)
  | inr later ↦ Sends-match m rest facts places match.1 atom later
]

-- ---- terms of facts

pub terms_of-push : (facts : List (Fact Term)) (fact : Fact Term) → terms_of (facts ++ fact ∷ []) ≡ terms_of facts ++ fact.terms
terms_of-push facts fact = flat_map-append (λ (it : Fact Term). it.terms) facts (fact ∷ []) ∙ ap (λ it. terms_of facts ++ it) (append-nil fact.terms)
